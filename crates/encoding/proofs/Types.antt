-- Stored types: what is read of one is its bytes, and where its bytes stand it is read.
use Prim.Native.Nat.{ℕ, zero, suc, ◌+◌, ◌-◌, ◌<◌, ◌≤◌}
use mathlib.Core.List.{List, [], ◌∷◌, ◌++◌}
use mathlib.Core.Path.{◌≡◌, refl, sym, ap, ap₂, ◌∙◌}
use native.Mathlib.Omega.{arith}
use lib.ListN.{length, drop}
use Rattle.reading.specs.Dialects.{groups_in, kinds_in}
use Rattle.reading.specs.Read.{got, and_then, below}
use Rattle.reading.specs.Types.{channel, groups_then_kind_in, type_at_in}
use Rattle.reading.specs.declared.Dialect.{Dialect}
use Rattle.reading.specs.declared.Dialect.TheVariants.{Old as old, Current as current}
use Rattle.reading.proofs.Parts.{parts, below_found}
use Rattle.reading.proofs.TypeLaws.{shape_plain, shape_channel}
use Rattle.encoding.specs.Encoding.{nested_from, nested, type_bytes}
use Rattle.encoding.proofs.Ahead.{below_ahead, below_there, next_there}

-- The dialects have the same groups and kinds.
pub groups_all : (d : Dialect) → groups_in d ≡ 64
unfolding groups_in
groups_all old = refl
groups_all current = refl

pub kinds_all : (d : Dialect) → kinds_in d ≡ 16
unfolding kinds_in
kinds_all old = refl
kinds_all current = refl

pub group_small : (d : Dialect) (s : List ℕ) (at : ℕ) {g k : ℕ} → below (groups_in d) s at ≡ got g k → g < 64
group_small d s at e = omega (arith, groups_all d, below_found (groups_in d) s at e)

kind_small : (d : Dialect) (s : List ℕ) (at : ℕ) {t k : ℕ} → below (kinds_in d) s at ≡ got t k → t < 16
kind_small d s at e = omega (arith, kinds_all d, below_found (kinds_in d) s at e)

-- A type of n groups.
pub data Nested : ℕ → ℕ → Type 0 where
  plain : {t : ℕ} → t < 16 → Nested 0 t
  link : {n g t : ℕ} → g < 64 → Nested n t → Nested (suc n) (channel g t)

-- A type that can be stored: of at most four groups.
pub record Storable (t : ℕ) : Type 0 where
  pub groups : ℕ
  pub few : groups ≤ 4
  pub has : Nested groups t

-- Its bytes.
nested_channel : (m g t : ℕ) → g < 64 → nested (suc m) (channel g t) ≡ g ∷ nested m t
unfolding nested nested_from
nested_channel m g t h = rw (shape_channel g t h)

nested_plain : (m t : ℕ) → t < 16 → nested m t ≡ t ∷ []
unfolding nested nested_from
nested_plain zero t h = refl
nested_plain (suc m) t h = rw (shape_plain t h)

nested_length : (m : ℕ) {n t : ℕ} → Nested n t → n ≤ m → length (nested m t) ≡ suc n
nested_length m {t = t} (plain h) l = ap length (nested_plain m t h)
nested_length zero (link h x) l = absurd (omega arith)
nested_length (suc m) (link {n} {g} {t} h x) l = ap length (nested_channel m g t h) ∙ ap suc (nested_length m x (omega arith))

pub count_byte : {t : ℕ} (x : Storable t) → length (nested 4 t) - 1 ≡ x.groups
count_byte x = omega (arith, nested_length 4 x.has x.few)

-- Reading tells the groups.
nested_read : (d : Dialect) (n : ℕ) (s : List ℕ) (at : ℕ) {t k : ℕ} → groups_then_kind_in d n s at ≡ got t k → Nested n t
unfolding groups_then_kind_in
nested_read d zero s at e = plain (kind_small d s at e)
nested_read d (suc n) s at {t} e =
    let h = parts (below (groups_in d) s at) (λ g next. and_then (groups_then_kind_in d n s next) (λ u m. got (channel g u) m)) e in
    let i = parts (groups_then_kind_in d n s h.place) (λ u m. got (channel h.value u) m) h.rest in
    let v : channel h.value i.value ≡ t = let z = i.rest in cc in
    rw v at (link (group_small d s at h.first) (nested_read d n s h.place i.first))

-- and the bytes.
nested_ahead : (d : Dialect) (n m : ℕ) (s : List ℕ) (at : ℕ) {t k : ℕ} → n ≤ m → groups_then_kind_in d n s at ≡ got t k
    → drop at s ≡ nested m t ++ drop k s
unfolding groups_then_kind_in
nested_ahead d zero m s at {t} l e = rw (nested_plain m t (kind_small d s at e)) (below_ahead (kinds_in d) s at e)
nested_ahead d (suc n) zero s at l e = absurd (omega arith)
nested_ahead d (suc n) (suc m) s at {t} {k} l e =
    let h = parts (below (groups_in d) s at) (λ g next. and_then (groups_then_kind_in d n s next) (λ u m. got (channel g u) m)) e in
    let i = parts (groups_then_kind_in d n s h.place) (λ u m. got (channel h.value u) m) h.rest in
    let v : channel h.value i.value ≡ t = let z = i.rest in cc in
    let p : i.place ≡ k = let z = i.rest in cc in
    let c : nested (suc m) (channel h.value i.value) ≡ h.value ∷ nested m i.value = nested_channel m h.value i.value (group_small d s at h.first) in
    below_ahead (groups_in d) s at h.first ∙ ap (λ (l : List ℕ). h.value ∷ l) (nested_ahead d n m s h.place (omega arith) i.first)
    ∙ ap (λ (l : List ℕ). l ++ drop i.place s) (sym c) ∙ ap₂ (λ (u j : ℕ). nested (suc m) u ++ drop j s) v p

-- Where they stand, they are read.
nested_there : (d : Dialect) (m : ℕ) (s : List ℕ) (at : ℕ) {n t : ℕ} (rest : List ℕ) → Nested n t → n ≤ m → drop at s ≡ nested m t ++ rest
    → groups_then_kind_in d n s at ≡ got t (at + suc n)
unfolding groups_then_kind_in and_then
nested_there d m s at {t = t} rest (plain h) l e =
    let f : drop at s ≡ t ∷ rest = rw (nested_plain m t h) at e in below_there s at f (kinds_in d) (omega (arith, kinds_all d))
nested_there d zero s at rest (link h x) l e = absurd (omega arith)
nested_there d (suc m) s at rest (link {n} {g} {t} h x) l e =
    let f : drop at s ≡ g ∷ (nested m t ++ rest) = rw (nested_channel m g t h) at e in
    let z : at + 1 + suc n ≡ at + suc (suc n) = omega arith in
    rw (below_there s at f (groups_in d) (omega (arith, groups_all d)), nested_there d m s (at + 1) rest x (omega arith) (next_there s at f), z)

-- Of a whole stored type.
pub type_storable : (d : Dialect) (s : List ℕ) (at : ℕ) {t k : ℕ} → type_at_in d s at ≡ got t k → Storable t
unfolding type_at_in
type_storable d s at e =
    let h = parts (below 5 s at) (λ n next. groups_then_kind_in d n s next) e in
    record { groups = h.value; few = omega (arith, below_found 5 s at h.first); has = nested_read d h.value s h.place h.rest }

pub type_ahead : (d : Dialect) (s : List ℕ) (at : ℕ) {t k : ℕ} → type_at_in d s at ≡ got t k → drop at s ≡ type_bytes t ++ drop k s
unfolding type_at_in type_bytes
type_ahead d s at {t} {k} e =
    let h = parts (below 5 s at) (λ n next. groups_then_kind_in d n s next) e in
    let few : h.value ≤ 4 = omega (arith, below_found 5 s at h.first) in
    let c : length (nested 4 t) - 1 ≡ h.value = omega (arith, nested_length 4 (nested_read d h.value s h.place h.rest) few) in
    rw c (below_ahead 5 s at h.first ∙ ap (λ (l : List ℕ). h.value ∷ l) (nested_ahead d h.value 4 s h.place few h.rest))

pub type_there : (d : Dialect) (s : List ℕ) (at : ℕ) {t : ℕ} (rest : List ℕ) → Storable t → drop at s ≡ type_bytes t ++ rest
    → type_at_in d s at ≡ got t (at + length (type_bytes t))
unfolding type_at_in and_then type_bytes
type_there d s at {t} rest x e =
    let f : drop at s ≡ x.groups ∷ (nested 4 t ++ rest) = rw (count_byte x) at e in
    let z : at + 1 + suc x.groups ≡ at + suc (length (nested 4 t)) = omega (arith, nested_length 4 x.has x.few) in
    rw (below_there s at f 5 (omega (arith, x.few)), nested_there d 4 s (at + 1) rest x.has x.few (next_there s at f), z)
