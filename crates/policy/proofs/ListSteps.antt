-- How a disclose list is read, step by step: a refusal is handed on, and what was found goes on.
use Prim.Native.Nat.{ℕ, zero, suc, ◌+◌, ◌-◌, ◌*◌, ◌<◌, ◌≤◌}
use mathlib.Core.Bool.{Bool, true, false}
use mathlib.Core.List.{List, ◌∷◌}
use mathlib.Core.Path.{◌≡◌, refl, sym, ap}
use native.Mathlib.Numerals.{sub-one}
use native.Mathlib.Omega.{arith}
use borrow.Author.Tests.{lt-ltb, le-leb, lt-leb}
use lib.Dec.{ltb, leb}
use lib.ListN.{length, get_or}
use mir.Syntax.{w8, w64}
use mir.Val.{Fits}
use Rattle.std.specs.Prelude.{Result, Ok, Err}
use Rattle.reading.proofs.Parts.{never}
use Rattle.reading.proofs.Steps.{steps}
use Rattle.reading.specs.Read.{Read, got, refused, and_then, byte_at, below}
use Rattle.reading.specs.Questions.{number_of}
use Rattle.reading.specs.Told.{number}
use Rattle.reading.specs.declared.Number.{Number}
use Rattle.reading.specs.declared.Question.TheVariants as question
use Rattle.reading.specs.declared.Refusal.{Refusal}
use Rattle.policy.proofs.ListLaws.{byte_is, item_is, list_is}
use Rattle.policy.specs.Syntax.{Granted}
use Rattle.policy.specs.Reading.{must, two_bytes, is_count, item_at, read_list, counted_list}
use Rattle.policy.specs.Loads.{group_only, count_only}

-- A byte is small, so that two of them fit.
pub byte_small : (s : List ℕ) (at : ℕ) (r : Result Number Refusal) (n : Number) → ((i : ℕ) → Fits w8 (get_or s i 0)) → r ≡ Ok n → number r ≡ byte_at s at → n.value < 256
byte_small s at r n g f e = omega (arith, (byte_is s at {b = n.value} {k = n.next} (rw f at (sym e))).value, g at)

module _ (s : List ℕ) (given : (i : ℕ) → Fits w8 (get_or s i 0)) (at : ℕ) (r : Result Number Refusal) (n : Number) (f : r ≡ Ok n) (e : number r ≡ byte_at s at) where
  pub high_fits : Fits w64 (256 * n.value)
  high_fits = record { fits = omega (arith, byte_small s at r n given f e) }

  pub word_fits : (m : ℕ) (q : Result Number Refusal) (l : Number) → q ≡ Ok l → number q ≡ byte_at s m → Fits w64 (l.value + 256 * n.value)
  word_fits m q l g h = record { fits = omega (arith, byte_small s at r n given f e, byte_small s m q l given g h) }

pub ruleset word_steps = (steps, high_fits, word_fits)

-- An item.
module _ (s : List ℕ) (lowest at : ℕ) (r : Result Number Refusal) (e : number r ≡ below 64 s at) where
  pub group_refused : (q : Refusal) → r ≡ Err q → number r ≡ group_only (item_at s lowest at)
  unfolding item_at group_only and_then
  group_refused q f = let z = sym (rw f at e) in rw (z, f)

  module _ (g : Number) (f : r ≡ Ok g) where
    group_read : item_at s lowest at ≡ must (leb lowest g.value) at
        (and_then (two_bytes s g.next) (λ c k. must (is_count c) g.next (got (record { group = g.value; count = c }) k)))
    unfolding item_at and_then
    group_read = let z = sym (rw f at e) in rw z

    pub group_low : (w : Refusal) → g.value < lowest → w ≡ record { question = question.Charter; at = at } → refused (number_of w.question) w.at ≡ group_only (item_at s lowest at)
    unfolding must group_only
    group_low w h k = rw (group_read, lt-leb lowest g.value h, k)

    module _ (h : lowest ≤ g.value) (v : Result Number Refusal) (i : number v ≡ two_bytes s g.next) where
      group_good : item_at s lowest at ≡ and_then (two_bytes s g.next) (λ c k. must (is_count c) g.next (got (record { group = g.value; count = c }) k))
      unfolding must
      group_good = rw (group_read, le-leb lowest g.value h)

      pub count_refused : (q : Refusal) → v ≡ Err q → number v ≡ group_only (item_at s lowest at)
      unfolding group_only and_then
      count_refused q k = let z = sym (rw k at i) in rw (group_good, z, k)

      module _ (n : Number) (k : v ≡ Ok n) (b : Bool) (j : b ≡ is_count n.value) where
        count_read : item_at s lowest at ≡ must b g.next (got (record { group = g.value; count = n.value }) n.next)
        unfolding and_then
        count_read = let z = sym (rw k at i) in rw (group_good, z, ← j)

        pub count_good : b ≡ true → got g.value n.next ≡ group_only (item_at s lowest at)
        unfolding must group_only
        count_good l = rw (count_read, l)

        pub count_bad : (w : Refusal) → b ≡ false → w ≡ record { question = question.Charter; at = g.next } → refused (number_of w.question) w.at ≡ group_only (item_at s lowest at)
        unfolding must group_only
        count_bad w l m = rw (count_read, l, m)

pub ruleset item_steps = (steps, group_refused, group_low, count_refused, count_good, count_bad)

-- What was read, where only the group was kept.
record GroupOf (x : Read Granted) (v k : ℕ) : Type 0 where
  item : Granted
  is : x ≡ got item k
  group : item.group ≡ v

group_got : (x : Read Granted) {v k : ℕ} → got v k ≡ group_only x → GroupOf x v k
unfolding group_only
group_got (got d m) {v} {k} h =
    let z : m ≡ k = cc in let y : d.group ≡ v = cc in record { item = d; is = ap (λ (n : ℕ). got d n) z; group = y }
group_got (refused q p) h = never (sym h)

group_not : (x : Read Granted) {q p : ℕ} → refused q p ≡ group_only x → x ≡ refused q p
unfolding group_only
group_not (got d m) h = never h
group_not (refused a b) {q} {p} h = let v : a ≡ q = cc in let w : b ≡ p = cc in rw (v, w)

-- One item, then the rest.
list_step : (n : ℕ) (s : List ℕ) (lowest at : ℕ) → 0 < n
    → read_list n s lowest at ≡ and_then (item_at s lowest at) (λ d m. and_then (read_list (n - 1) s (d.group + 1) m) (λ rest k. got (d ∷ rest) k))
unfolding read_list
list_step zero s lowest at h = absurd (omega arith)
list_step (suc n) s lowest at h = rw (sub-one (suc n))

-- A number in the place of what is read.
unfoldable pub counting : {A : Type 0} → ℕ → Read A → Read ℕ
counting v x = and_then x (λ a k. got v k)

counting_more : (v : ℕ) (d : Granted) (x : Read (List Granted)) → counting v (and_then x (λ rest k. got (d ∷ rest) k)) ≡ counting v x
unfolding counting and_then
counting_more v d (got ds k) = refl
counting_more v d (refused q p) = refl

counted_alike : (n : ℕ) (s : List ℕ) (lowest at : ℕ) → count_only (read_list n s lowest at) ≡ counting n (read_list n s lowest at)
unfolding count_only counting and_then
counted_alike n s lowest at = go (read_list n s lowest at) (λ ds k e. (list_is n s lowest at {ds = ds} {k = k} e).count)
  where
    go : (x : Read (List Granted)) → ((ds : List Granted) (k : ℕ) → x ≡ got ds k → length ds ≡ n) → count_only x ≡ counting n x
    go (got ds k) h = rw (h ds k refl)
    go (refused q p) h = refl

-- The loop over a list: `done` items are read, and the others are still to be read, from `next` on.
pub record ItemsAhead (s : List ℕ) (at count next lowest done : ℕ) : Type 0 where
  pub same : count_only (read_list count s 0 at) ≡ counting count (read_list (count - done) s lowest next)

pub all_ahead : (s : List ℕ) (at count : ℕ) → ItemsAhead s at count at 0 0
all_ahead s at count = let z : count - 0 ≡ count = omega arith in record { same = rw z (counted_alike count s 0 at) }

module _ (s : List ℕ) (at count next lowest done : ℕ) (t : ItemsAhead s at count next lowest done) where
  pub none_ahead : count ≤ done → got count next ≡ count_only (read_list count s 0 at)
  unfolding read_list counting and_then
  none_ahead h = let z : count - done ≡ 0 = omega arith in rw (t.same, z)

  pub item_refused : (r : Result Number Refusal) (q : Refusal) → done < count → r ≡ Err q → number r ≡ group_only (item_at s lowest next)
      → number r ≡ count_only (read_list count s 0 at)
  unfolding counting and_then
  item_refused r q h f e =
      rw (t.same, list_step (count - done) s lowest next (omega arith), group_not (item_at s lowest next) {q = number_of q.question} {p = q.at} (rw f at e), f)

  pub item_read : (r : Result Number Refusal) (n : Number) → done < count → r ≡ Ok n → number r ≡ group_only (item_at s lowest next)
      → ItemsAhead s at count n.next (n.value + 1) (done + 1)
  unfolding and_then
  item_read r n h f e =
      let g = group_got (item_at s lowest next) {v = n.value} {k = n.next} (rw f at e) in
      let z : count - (done + 1) ≡ count - done - 1 = omega arith in
      record {
        same = rw (z, t.same, list_step (count - done) s lowest next (omega arith), g.is, g.group)
            (counting_more count g.item (read_list (count - done - 1) s (n.value + 1) n.next));
      }

pub next_lowest : (s : List ℕ) (lowest at : ℕ) (r : Result Number Refusal) (n : Number) → r ≡ Ok n → number r ≡ group_only (item_at s lowest at) → Fits w64 (n.value + 1)
next_lowest s lowest at r n f e =
    let g = group_got (item_at s lowest at) {v = n.value} {k = n.next} (rw f at e) in
    record { fits = omega (arith, (item_is s lowest at g.is).small, g.group) }

pub ruleset list_steps = (steps, all_ahead, none_ahead, item_refused, item_read, next_lowest)

-- A counted list: how many, and then the items.
module _ (s : List ℕ) (at : ℕ) (r : Result Number Refusal) (e : number r ≡ below 65 s at) where
  pub length_refused : (q : Refusal) → r ≡ Err q → number r ≡ count_only (counted_list s at)
  unfolding counted_list count_only and_then
  length_refused q f = let z = sym (rw f at e) in rw (z, f)

  module _ (n : Number) (f : r ≡ Ok n) where
    length_read : counted_list s at ≡ must (ltb 0 n.value) at (read_list n.value s 0 n.next)
    unfolding counted_list and_then
    length_read = let z = sym (rw f at e) in rw z

    pub length_zero : (w : Refusal) → n.value ≡ 0 → w ≡ record { question = question.Charter; at = at } → refused (number_of w.question) w.at ≡ count_only (counted_list s at)
    unfolding must count_only
    length_zero w h k = rw (length_read, h, k)

    pub items_read : (y : Read ℕ) → (n.value ≡ 0 → ⊥) → y ≡ count_only (read_list n.value s 0 n.next) → y ≡ count_only (counted_list s at)
    unfolding must
    items_read y h k = rw (length_read, lt-ltb 0 n.value (omega arith)) k

pub ruleset counted_steps = (steps, length_refused, length_zero, items_read)
