-- Keys: a number for a list of groups, whose digits they are, and one digit more for a purpose. Lists of groups with one key are the same;
-- so components share exactly if the keys of their rows are the same.
use Prim.Native.Nat.{ℕ, zero, suc, ◌+◌, ◌*◌, ◌%◌, ◌<◌, ◌≤◌}
use mathlib.Core.Path.{◌≡◌, refl, sym, ap, ap₂, ◌∙◌}
use mathlib.Core.List.{List, [], ◌∷◌, map}
use mathlib.Core.Bool.{Bool, true, false, cond, ◌||◌}
use native.Mathlib.Omega.{arith}
use native.Mathlib.Decide.{ℕ_discrete}
use native.Mathlib.Nat.{mod-eq_of_lt}
use lib.Dec.{ltb, eqb}
use borrow.Author.Tests.{lt-ltb, ltb-true, eqb-true, eq-eqb}
use Rattle.reading.specs.Forms.{member}
use Rattle.reading.proofs.TotalLaws.{both_left, both_right}
use Rattle.inference.specs.Acts.{Component}
use Rattle.inference.specs.Classes.{shares}
use Rattle.inference.specs.Lists.{every, only, rising}
use Rattle.inference.specs.Rows.{Orderly, group_count, group_at, row_groups, rising_groups, path_at, purpose_at}
use Rattle.inference.proofs.ClassLaws.{or_second, same_truth, shares_member, shares_purpose, member_shares}
use Rattle.sharing.specs.Sums.{key_of, row_key}

pub key_same : (xs ys : List ℕ) → every (λ g. ltb g 64) xs ≡ true → every (λ g. ltb g 64) ys ≡ true → key_of xs ≡ key_of ys → xs ≡ ys
unfolding key_of every
key_same [] [] p q e = refl
key_same [] (y ∷ ys) p q e = absurd (omega arith)
key_same (x ∷ xs) [] p q e = absurd (omega arith)
key_same (x ∷ xs) (y ∷ ys) p q e =
    let a : x < 64 = ltb-true x 64 (both_left (ltb x 64) (every (λ g. ltb g 64) xs) p) in
    let b : y < 64 = ltb-true y 64 (both_left (ltb y 64) (every (λ g. ltb g 64) ys) q) in
    let m : x % 64 ≡ x = mod-eq_of_lt a in
    let n : y % 64 ≡ y = mod-eq_of_lt b in
    let here : x ≡ y = omega (arith, e, m, n) in
    let rest : key_of xs ≡ key_of ys = omega (arith, e, m, n) in
    ap₂ ◌∷◌ here (key_same xs ys (both_right (ltb x 64) (every (λ g. ltb g 64) xs) p) (both_right (ltb y 64) (every (λ g. ltb g 64) ys) q) rest)

-- What is chosen from rising numbers.
only_same : (p q : ℕ → Bool) → ((x : ℕ) → p x ≡ q x) → (xs : List ℕ) → only p xs ≡ only q xs
unfolding only
only_same p q same [] = refl
only_same p q same (x ∷ xs) = rw (same x, only_same p q same xs)

chosen_is : (p : ℕ → Bool) (g : ℕ) (xs : List ℕ) → member g (only p xs) ≡ true → p g ≡ true
unfolding only member
chosen_is p g [] m = let z : ◌≡◌ {A = ℕ} 0 1 = cc in absurd (omega arith)
chosen_is p g (x ∷ xs) m = go (p x) refl m (chosen_is p g xs)
  where
    go : (b : Bool) → p x ≡ b → member g (cond b (x ∷ only p xs) (only p xs)) ≡ true → (member g (only p xs) ≡ true → p g ≡ true) → p g ≡ true
    go true e k rest = split (eqb x g) refl k
      where
        split : (t : Bool) → eqb x g ≡ t → (t || member g (only p xs)) ≡ true → p g ≡ true
        split true q l = rw (eqb-true x g q) at e
        split false q l = rest l
    go false e k rest = rest k

is_chosen : (p : ℕ → Bool) (g start n : ℕ) → start ≤ g → g < start + n → p g ≡ true → member g (only p (rising start n)) ≡ true
unfolding only rising member
is_chosen p g start zero l h e = absurd (omega arith)
is_chosen p g start (suc n) l h e = go (ℕ_discrete start g) (p start) refl (λ m. is_chosen p g (suc start) n m (omega arith) e)
  where
    go : Dec (start ≡ g) → (b : Bool) → p start ≡ b → (suc start ≤ g → member g (only p (rising (suc start) n)) ≡ true)
        → member g (cond b (start ∷ only p (rising (suc start) n)) (only p (rising (suc start) n))) ≡ true
    go (yes z) true q rest = rw (eq-eqb start g z)
    go (yes z) false q rest = let y : true ≡ false = sym (rw (← z) at e) ∙ q in let x : ◌≡◌ {A = ℕ} 0 1 = cc in absurd (omega arith)
    go (no f) true q rest = or_second (eqb start g) (member g (only p (rising (suc start) n))) (rest (omega (arith, f)))
    go (no f) false q rest = rest (omega (arith, f))

-- a member of a list of groups is a group
member_low : (g : ℕ) (path : List ℕ) → every (λ x. ltb x 64) path ≡ true → member g path ≡ true → g < 64
unfolding every member
member_low g [] low m = let z : ◌≡◌ {A = ℕ} 0 1 = cc in absurd (omega arith)
member_low g (x ∷ path) low m = go (eqb x g) refl m (member_low g path (both_right (ltb x 64) (every (λ y. ltb y 64) path) low))
  where
    go : (b : Bool) → eqb x g ≡ b → (b || member g path) ≡ true → (member g path ≡ true → g < 64) → g < 64
    go true e k rest = let z : x ≡ g = eqb-true x g e in let l : x < 64 = ltb-true x 64 (both_left (ltb x 64) (every (λ y. ltb y 64) path) low) in omega arith
    go false e k rest = rest k

every_rising : (f : ℕ → ℕ) (start n : ℕ) → ((i : ℕ) → i < start + n → f i < 64) → every (λ g. ltb g 64) (map f (rising start n)) ≡ true
unfolding every rising
every_rising f start zero h = refl
every_rising f start (suc n) h = rw (lt-ltb (f start) 64 (h start (omega arith)), every_rising f (suc start) n (λ i l. h i (omega arith)))

-- The component of a row.
abbrev pub component_of : List ℕ → ℕ → Component
component_of table n = record { number = n; path = path_at table n; purpose = purpose_at table n }

module _ (table : List ℕ) (m n : ℕ) (up : Orderly table m) (up' : Orderly table n) where
  low : (k : ℕ) → Orderly table k → every (λ g. ltb g 64) (row_groups table k) ≡ true
  unfolding row_groups
  low k o = every_rising (group_at table k) 0 (group_count table k) (λ i l. o.low i (omega arith))

  -- a purpose is a digit
  digit : (k : ℕ) → Orderly table k → purpose_at table k % 16 ≡ purpose_at table k
  digit k o = mod-eq_of_lt o.purpose_low

  key_digits : row_key table m ≡ row_key table n → key_of (row_groups table m) * 16 + purpose_at table m ≡ key_of (row_groups table n) * 16 + purpose_at table n
  unfolding row_key
  key_digits e = rw (digit m up, digit n up') at e

  pub key_groups : row_key table m ≡ row_key table n → row_groups table m ≡ row_groups table n
  key_groups e =
      key_same (row_groups table m) (row_groups table n) (low m up) (low n up')
      (omega (arith, key_digits e, up.purpose_low, up'.purpose_low))

  key_purpose : row_key table m ≡ row_key table n → purpose_at table m ≡ purpose_at table n
  key_purpose e = omega (arith, key_digits e, up.purpose_low, up'.purpose_low)

  share_key : shares (component_of table m) (component_of table n) ≡ true → row_key table m ≡ row_key table n
  unfolding row_key rising_groups
  share_key h =
      ap₂ (λ (groups : List ℕ) (purpose : ℕ). key_of groups * 16 + purpose % 16) (up.groups
      ∙ unfold rising_groups in only_same (λ g. member g (path_at table m)) (λ g. member g (path_at table n)) (shares_member (component_of table m) (component_of table n) h) (rising 0 64)
      ∙ sym up'.groups) (shares_purpose (component_of table m) (component_of table n) h)

  key_share : row_key table m ≡ row_key table n → shares (component_of table m) (component_of table n) ≡ true
  key_share e = member_shares (component_of table m) (component_of table n) (λ g. same_truth (member g (path_at table m)) (member g (path_at table n)) (across g m n up up' same) (across g n m up' up (sym same)))
      (key_purpose e)
    where
      same : rising_groups (path_at table m) ≡ rising_groups (path_at table n)
      same = sym up.groups ∙ key_groups e ∙ up'.groups

      across : (g a b : ℕ) → Orderly table a → Orderly table b → rising_groups (path_at table a) ≡ rising_groups (path_at table b)
          → member g (path_at table a) ≡ true → member g (path_at table b) ≡ true
      across g a b o o' q h =
          chosen_is (λ x. member x (path_at table b)) g (rising 0 64)
          (unfold rising_groups in (ap (member g) (sym q) ∙ is_chosen (λ x. member x (path_at table a)) g 0 64 (omega arith) (omega (arith, member_low g (path_at table a) o.path_low h)) h))

  pub shares_key : shares (component_of table m) (component_of table n) ≡ eqb (row_key table m) (row_key table n)
  shares_key =
      same_truth (shares (component_of table m) (component_of table n)) (eqb (row_key table m) (row_key table n))
      (λ h. eq-eqb (row_key table m) (row_key table n) (share_key h))
      (λ h. key_share (eqb-true (row_key table m) (row_key table n) h))
