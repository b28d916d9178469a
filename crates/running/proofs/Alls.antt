-- Lists all of whose members have a property, and the laws of appending, gathering and replacing that runs need.
use Prim.Native.Nat.{ℕ, zero, suc}
use mathlib.Core.Bool.{Bool, true, false, ◌&&◌}
use mathlib.Core.List.{List, [], ◌∷◌, ◌++◌, Memᴰ}
use mathlib.Core.Option.{some}
use mathlib.Core.Path.{◌≡◌, refl}
use lib.ListN.{get_elem?, set}
use native.Mathlib.Omega.{arith}
use Rattle.reading.proofs.TotalLaws.{both_left, both_right}
use Rattle.inference.specs.Lists.{gather, every, any}
use Rattle.inference.proofs.ClassLaws.{or_first, or_second}
pub use Rattle.inference.proofs.GatherLaws.{gather_append}
pub use Rattle.interface.proofs.Alls.{All, done, also, all_map, all_append}

pub all_both : {A : Type 0} {P Q R : A → Type 0} {xs : List A} → ((x : A) → P x → Q x → R x) → All P xs → All Q xs → All R xs
all_both f done done = done
all_both f (also {x = x} p ps) (also q qs) = also (f x p q) (all_both f ps qs)

pub all_left : {A : Type 0} {P : A → Type 0} (xs ys : List A) → All P (xs ++ ys) → All P xs
all_left [] ys ps = done
all_left (x ∷ xs) ys (also p ps) = also p (all_left xs ys ps)

pub all_right : {A : Type 0} {P : A → Type 0} (xs ys : List A) → All P (xs ++ ys) → All P ys
all_right [] ys ps = ps
all_right (x ∷ xs) ys (also p ps) = all_right xs ys ps

pub all_head : {A : Type 0} {P : A → Type 0} {x : A} {xs : List A} → All P (x ∷ xs) → P x
all_head (also p ps) = p

pub all_tail : {A : Type 0} {P : A → Type 0} {x : A} {xs : List A} → All P (x ∷ xs) → All P xs
all_tail (also p ps) = ps

pub all_gather : {A B : Type 0} {P : B → Type 0} (f : A → List B) {xs : List A} → All (λ x. All P (f x)) xs → All P (gather f xs)
unfolding gather
all_gather f done = done
all_gather f (also p ps) = all_append p (all_gather f ps)

pub all_each : {A B : Type 0} {P : B → Type 0} (f : A → List B) (xs : List A) → All P (gather f xs) → All (λ x. All P (f x)) xs
unfolding gather
all_each f [] ps = done
all_each f (x ∷ xs) ps = also (all_left (f x) (gather f xs) ps) (all_each f xs (all_right (f x) (gather f xs) ps))

pub all_at : {A : Type 0} {P : A → Type 0} (xs : List A) (i : ℕ) {x : A} → get_elem? xs i ≡ some x → All P xs → P x
all_at {P = P} (y ∷ ys) zero {x} e (also p ps) = let z : y ≡ x = cc in rw z at p
all_at [] i e done = let z : ◌≡◌ {A = ℕ} 0 1 = cc in absurd (omega arith)
all_at (y ∷ ys) (suc i) e (also p ps) = all_at ys i e ps

pub all_set : {A : Type 0} {P : A → Type 0} (xs : List A) (i : ℕ) {x : A} → All P xs → P x → All P (set xs i x)
all_set [] i ps q = done
all_set (y ∷ ys) zero (also p ps) q = also q ps
all_set (y ∷ ys) (suc i) (also p ps) q = also p (all_set ys i ps q)

pub all_member : {A : Type 0} {P : A → Type 0} {x : A} {xs : List A} → Memᴰ x xs → All P xs → P x
all_member {P = P} (Memᴰ.head e) (also p ps) = rw e p
all_member (Memᴰ.tail m) (also p ps) = all_member m ps

pub all_from : {A : Type 0} {P : A → Type 0} (xs : List A) → ((x : A) → Memᴰ x xs → P x) → All P xs
all_from [] f = done
all_from (x ∷ xs) f = also (f x (Memᴰ.head refl)) (all_from xs (λ y m. f y (Memᴰ.tail m)))

pub and_both : (a b : Bool) → a ≡ true → b ≡ true → (a && b) ≡ true
and_both true b g h = h
and_both false b g h = g

pub all_every : {A : Type 0} (p : A → Bool) (xs : List A) → every p xs ≡ true → All (λ x. p x ≡ true) xs
unfolding every
all_every p [] h = done
all_every p (x ∷ xs) h = also (both_left (p x) (every p xs) h) (all_every p xs (both_right (p x) (every p xs) h))

pub every_all : {A : Type 0} (p : A → Bool) {xs : List A} → All (λ x. p x ≡ true) xs → every p xs ≡ true
unfolding every
every_all p done = refl
every_all p (also {x = x} {xs = xs} h hs) = and_both (p x) (every p xs) h (every_all p hs)

-- What is true of a member is true of some member.
pub any_member : {A : Type 0} (t : A → Bool) (a : A) {xs : List A} → Memᴰ a xs → t a ≡ true → any t xs ≡ true
unfolding any
any_member t a (Memᴰ.head {x = x} {xs = xs} e) h = or_first (t x) (any t xs) (rw (← e) h)
any_member t a (Memᴰ.tail {x = x} {xs = xs} m) h = or_second (t x) (any t xs) (any_member t a m h)
