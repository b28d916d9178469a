-- Two disclose lists that were read, in one pass: it says what the definition says of their counts. Groups rise in both, so what is passed over in
-- B is asked for no more, and a group that is not the next one of B is not in B; counts are at most 65,535, which is unlimited.
use Prim.Native.Nat.{ℕ, ◌+◌, ◌<◌, ◌≤◌}
use mathlib.Core.Bool.{Bool, true, false, cond, ◌&&◌, ◌||◌}
use mathlib.Core.List.{List, [], ◌∷◌}
use mathlib.Core.Path.{◌≡◌, refl, sym, ap}
use native.Mathlib.Omega.{arith}
use borrow.Author.Tests.{leb-true, le-leb, lt-leb, eqb-true, eqb-false, eq-eqb, ne_eqb, ltb-true, ltb-false}
use lib.Dec.{leb, ltb, eqb}
use Rattle.reading.proofs.FormLaws.{both_true}
use Rattle.inference.specs.Lists.{every}
use Rattle.inference.specs.Counts.{fin, unlimited, at_most}
use Rattle.policy.specs.Syntax.{Granted}
use Rattle.policy.specs.Reading.{is_count}
use Rattle.policy.proofs.CountLaws.{ListFits, in_counts, rises_from}
use Rattle.fit.specs.Grants.{stored_count, listed}
use Rattle.comparing.specs.NoLooser.{counts_no_looser}
use Rattle.comparing.specs.Rows.{from_group, first_count, lists_within}

-- A list that fits, taken apart.
record Parts (lowest : ℕ) (d : Granted) (rest : List Granted) : Type 0 where
  low : lowest ≤ d.group
  count : is_count d.count ≡ true
  fits : ListFits (d.group + 1) rest

parts : {lowest : ℕ} (d : Granted) (rest : List Granted) → ListFits lowest (d ∷ rest) → Parts lowest d rest
unfolding in_counts every rises_from
parts {lowest} d rest f =
    let c = both_true (is_count d.count) (in_counts rest) f.counts in
    let r = both_true (leb lowest d.group) (rises_from (d.group + 1) rest) f.rises in
    record { low = leb-true lowest d.group r.0; count = c.0; fits = record { counts = c.1; rises = r.1 } }

-- A stored count is at most 65,535.
count_small : (n : ℕ) → is_count n ≡ true → n ≤ 65535
unfolding is_count
count_small n e = go (leb 1 n) (leb n 4095) refl (eqb n 65535) refl e
  where
    go : (x y : Bool) → leb n 4095 ≡ y → (z : Bool) → eqb n 65535 ≡ z → ((x && y) || z) ≡ true → n ≤ 65535
    go x true f z g t = omega (arith, leb-true n 4095 f)
    go x false f true g t = omega (arith, eqb-true n 65535 g)
    go true false f false g t = let z : ◌≡◌ {A = ℕ} 0 1 = cc in absurd (omega arith)
    go false false f false g t = let z : ◌≡◌ {A = ℕ} 0 1 = cc in absurd (omega arith)

-- Stored counts compare as they are.
stored_compare : (m n : ℕ) → m ≤ 65535 → n ≤ 65535 → at_most (stored_count m) (stored_count n) ≡ leb m n
unfolding stored_count at_most
stored_compare m n h k = go (eqb m 65535) refl (eqb n 65535) refl
  where
    go : (x : Bool) → eqb m 65535 ≡ x → (y : Bool) → eqb n 65535 ≡ y → at_most (cond x unlimited (fin m)) (cond y unlimited (fin n)) ≡ leb m n
    go true e true f = sym (le-leb m n (omega (arith, eqb-true m 65535 e, eqb-true n 65535 f)))
    go true e false f = sym (lt-leb m n (let z = eqb-false n 65535 f in omega (arith, eqb-true m 65535 e)))
    go false e true f = sym (le-leb m n (omega (arith, eqb-true n 65535 f)))
    go false e false f = refl

-- A group below all of a list is not in it.
not_listed : (h lowest : ℕ) (ds : List Granted) → ListFits lowest ds → h < lowest → listed h ds ≡ fin 0
unfolding listed
not_listed h lowest [] f l = refl
not_listed h lowest (d ∷ ds) f l =
    let p = parts d ds f in
    rw (ne_eqb d.group h (λ e. absurd (omega (arith, p.low)))) (not_listed h (d.group + 1) ds p.fits (omega (arith, p.low)))

-- A list that fits fits from any lower group on.
fits_lower : (lowest m : ℕ) (ds : List Granted) → lowest ≤ m → ListFits m ds → ListFits lowest ds
unfolding rises_from
fits_lower lowest m [] l f = record { counts = f.counts; rises = refl }
fits_lower lowest m (d ∷ ds) l f =
    let p = parts d ds f in
    record { counts = f.counts; rises = rw (le-leb lowest d.group (omega (arith, p.low))) p.fits.rises }

-- What is passed over is below the group: the rest fits, and tells the same of the group and of all above it.
from_fits : (g lowest : ℕ) (ds : List Granted) → ListFits lowest ds → ListFits lowest (from_group g ds)
unfolding from_group
from_fits g lowest [] f = f
from_fits g lowest (d ∷ ds) f = let p = parts d ds f in go (ltb d.group g) p.low (from_fits g (d.group + 1) ds p.fits)
  where
    go : (b : Bool) → lowest ≤ d.group → ListFits (d.group + 1) (from_group g ds) → ListFits lowest (cond b (from_group g ds) (d ∷ ds))
    go true low rest = fits_lower lowest (d.group + 1) (from_group g ds) (omega arith) rest
    go false low rest = f

from_listed : (g h : ℕ) → g ≤ h → (ds : List Granted) → listed h (from_group g ds) ≡ listed h ds
unfolding from_group listed
from_listed g h l [] = refl
from_listed g h l (d ∷ ds) = go (ltb d.group g) refl (from_listed g h l ds)
  where
    go : (b : Bool) → ltb d.group g ≡ b → listed h (from_group g ds) ≡ listed h ds
        → listed h (cond b (from_group g ds) (d ∷ ds)) ≡ cond (eqb d.group h) (stored_count d.count) (listed h ds)
    go true e rest = rw (ne_eqb d.group h (λ z. absurd (omega (arith, ltb-true d.group g e)))) rest
    go false e rest = refl

-- The first item that is not below a group tells its count.
here_listed : (g : ℕ) (d : Granted) (ds : List Granted) → ListFits (d.group + 1) ds → g ≤ d.group → stored_count (first_count g (d ∷ ds)) ≡ listed g (d ∷ ds)
unfolding first_count listed stored_count
here_listed g d ds f l = go (eqb d.group g) refl
  where
    go : (t : Bool) → eqb d.group g ≡ t → stored_count (cond t d.count 0) ≡ cond t (stored_count d.count) (listed g ds)
    go true e = refl
    go false e = sym (not_listed g (d.group + 1) ds f (let z = eqb-false d.group g e in omega arith))

first_listed : (g lowest : ℕ) (ds : List Granted) → ListFits lowest ds → stored_count (first_count g (from_group g ds)) ≡ listed g ds
unfolding from_group
first_listed g lowest [] f = unfold first_count stored_count listed in refl
first_listed g lowest (d ∷ ds) f = let p = parts d ds f in go (ltb d.group g) refl p.fits (first_listed g (d.group + 1) ds p.fits)
  where
    go : (b : Bool) → ltb d.group g ≡ b → ListFits (d.group + 1) ds → stored_count (first_count g (from_group g ds)) ≡ listed g ds
        → stored_count (first_count g (cond b (from_group g ds) (d ∷ ds))) ≡ listed g (d ∷ ds)
    go true e fits rest = unfold listed in rw (ne_eqb d.group g (λ z. absurd (omega (arith, ltb-true d.group g e)))) rest
    go false e fits rest = here_listed g d ds fits (ltb-false d.group g e)

first_small : (g lowest : ℕ) (ds : List Granted) → ListFits lowest ds → first_count g ds ≤ 65535
unfolding first_count
first_small g lowest [] f = omega arith
first_small g lowest (d ∷ ds) f = go (eqb d.group g)
  where
    go : (t : Bool) → cond t d.count 0 ≤ 65535
    go true = count_small d.count (parts d ds f).count
    go false = omega arith

-- The rest of A asks only for groups above, so it may be asked of the rest of B, and of itself.
rest_asks : (d : Granted) (a b : List Granted) → ListFits (d.group + 1) a
    → (xs : List Granted) (m : ℕ) → d.group < m → ListFits m xs
    → every (λ x. at_most (listed x.group (d ∷ a)) (listed x.group b)) xs ≡ every (λ x. at_most (listed x.group a) (listed x.group (from_group d.group b))) xs
unfolding every
rest_asks d a b f [] m l g = refl
rest_asks d a b f (x ∷ xs) m l g =
    let p = parts x xs g in
    let above : d.group < x.group = omega (arith, p.low) in
    let own : listed x.group (d ∷ a) ≡ listed x.group a = unfold listed in rw (ne_eqb d.group x.group (λ e. absurd (omega arith))) in
    rw (own, from_listed d.group x.group (omega arith) b, rest_asks d a b f xs (x.group + 1) (omega arith) p.fits)

pub lists_are : (m n : ℕ) (a b : List Granted) → ListFits m a → ListFits n b → lists_within a b ≡ counts_no_looser a b
unfolding lists_within counts_no_looser every
lists_are m n [] b f g = refl
lists_are m n (d ∷ a) b f g =
    let p = parts d a f in
    let h = from_fits d.group n b g in
    let first : at_most (listed d.group (d ∷ a)) (listed d.group b) ≡ leb d.count (first_count d.group (from_group d.group b))
    = unfold listed in
    rw (eq-eqb d.group d.group refl, ← first_listed d.group n b g)
    (stored_compare d.count _ (count_small d.count p.count) (first_small d.group n (from_group d.group b) h)) in
    rw (first, rest_asks d a b p.fits a (d.group + 1) (omega arith) p.fits)
    (ap (λ (t : Bool). leb d.count (first_count d.group (from_group d.group b)) && t) (lists_are (d.group + 1) n a (from_group d.group b) p.fits h))
