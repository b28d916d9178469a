-- What a names file that reads gives: 64 groups and 16 kinds, each name of 1 to 20 letters, no two names of a list the same, so that
-- a name tells its number. Each of these is a test that the reading made on its way; and where one of them fails, 40 is answered.
use Prim.Native.Nat.{ℕ, zero, suc, ◌+◌, ◌<◌, ◌≤◌}
use mathlib.Core.Path.{◌≡◌, refl, sym, ap, ◌∙◌}
use mathlib.Core.List.{List, [], ◌∷◌}
use mathlib.Core.Bool.{Bool, true, false, cond, not, ◌&&◌, ◌||◌}
use native.Mathlib.Omega.{arith}
use borrow.Author.Tests.{ltb-true, ltb-false, leb-true, eq-eqb, not-true}
use lib.Dec.{ltb, leb, eqb}
use lib.ListN.{length, get_or, get_or-eq_default}
use Rattle.reading.specs.Read.{Read, got, refused, and_then}
use Rattle.reading.proofs.Parts.{parts, passed}
use Rattle.reading.proofs.FormLaws.{both_true}
use Rattle.inference.specs.Lists.{every, any}
use Rattle.naming.specs.Names.{is_letter, letters_at, ended_at, name_at, names_at, same, distinct, list_at, Names, whole_at, read_names}
use Rattle.naming.specs.Sentence.{name_of}

-- "1 to 20 letters"
pub record IsName (word : List ℕ) : Type 0 where
  pub letters : every is_letter word ≡ true
  pub some : 0 < length word
  pub few : length word ≤ 20

-- So many names, and no two of them the same.
pub record AreNames (n : ℕ) (names : List (List ℕ)) : Type 0 where
  pub count : length names ≡ n
  pub each : (i : ℕ) → i < n → IsName (name_of names i)
  pub apart : distinct names ≡ true

pub record Named (names : Names) : Type 0 where
  pub groups : AreNames 64 names.groups
  pub kinds : AreNames 16 names.kinds

-- One name.
letters_only : (n : ℕ) (s : List ℕ) (at : ℕ) → every is_letter (letters_at n s at) ≡ true
unfolding every letters_at
letters_only zero s at = refl
letters_only (suc n) s at = go (is_letter (get_or s at 0)) refl (letters_only n s (at + 1))
  where
    go : (b : Bool) → is_letter (get_or s at 0) ≡ b → every is_letter (letters_at n s (at + 1)) ≡ true
        → every is_letter (cond b (get_or s at 0 ∷ letters_at n s (at + 1)) []) ≡ true
    go true e h = unfold every in rw e h
    go false e h = unfold every in refl

pub letters_few : (n : ℕ) (s : List ℕ) (at : ℕ) → length (letters_at n s at) ≤ n
unfolding letters_at
letters_few zero s at = omega arith
letters_few (suc n) s at = go (is_letter (get_or s at 0)) (letters_few n s (at + 1))
  where
    go : (b : Bool) → length (letters_at n s (at + 1)) ≤ n → length (cond b (get_or s at 0 ∷ letters_at n s (at + 1)) []) ≤ suc n
    go true h = omega arith
    go false h = omega arith

name_is : (s : List ℕ) (at : ℕ) {word : List ℕ} {k : ℕ} → name_at s at ≡ got word k → IsName word
unfolding name_at ended_at
name_is s at {word} e =
    let w = letters_at 20 s at in
    let h = passed (ltb 0 (length w) && eqb (get_or s (at + length w) 0) 10) (got w (at + length w + 1)) 40 at e in
    let z : w ≡ word = cc in
    rw z at (found (both_true (ltb 0 (length w)) (eqb (get_or s (at + length w) 0) 10) h.test).0)
  where
    found : ltb 0 (length (letters_at 20 s at)) ≡ true → IsName (letters_at 20 s at)
    found t = record { letters = letters_only 20 s at; some = ltb-true 0 _ t; few = letters_few 20 s at }

-- So many names.
each_more : (n : ℕ) (word : List ℕ) (words : List (List ℕ)) → IsName word → ((i : ℕ) → i < n → IsName (name_of words i))
    → (i : ℕ) → i < suc n → IsName (name_of (word ∷ words) i)
unfolding name_of
each_more n word words h r zero l = h
each_more n word words h r (suc i) l = r i (omega arith)

names_are : (n : ℕ) (s : List ℕ) (at : ℕ) {names : List (List ℕ)} {k : ℕ} → names_at n s at ≡ got names k
    → (length names ≡ n) × ((i : ℕ) → i < n → IsName (name_of names i))
unfolding names_at
names_are zero s at {names} e = let z : [] ≡ names = cc in (ap length (sym z), λ i l. absurd (omega arith))
names_are (suc n) s at {names} e =
    let h = parts (name_at s at) (λ word next. and_then (names_at n s next) (λ words end. got (word ∷ words) end)) e in
    let g = parts (names_at n s h.place) (λ words end. got (h.value ∷ words) end) h.rest in
    let r = names_are n s h.place g.first in
    let z : h.value ∷ g.value ≡ names = cc in
    (ap length (sym z) ∙ ap suc r.0, rw z at (each_more n h.value g.value (name_is s at h.first) r.1))

list_is : (n : ℕ) (s : List ℕ) (at : ℕ) {names : List (List ℕ)} {k : ℕ} → list_at n s at ≡ got names k → AreNames n names
unfolding list_at
list_is n s at {names} e =
    let h = parts (names_at n s at) (λ words end. cond (distinct words) (got words end) (refused 40 at)) e in
    let g = passed (distinct h.value) (got h.value h.place) 40 at h.rest in
    let r = names_are n s at h.first in
    let z : h.value ≡ names = cc in
    rw z at (all h.value r.0 r.1 g.test)
  where
    all : (words : List (List ℕ)) → length words ≡ n → ((i : ℕ) → i < n → IsName (name_of words i)) → distinct words ≡ true
        → AreNames n words
    all words c f d = record { count = c; each = f; apart = d }

pub names_read : (s : List ℕ) (names : Names) (end : ℕ) → read_names s ≡ got names end → Named names
unfolding read_names whole_at
names_read s names end e =
    let h = parts (list_at 64 s 0) (λ groups next.
    and_then (list_at 16 s next) (λ kinds end. whole_at s (record { groups = groups; kinds = kinds }) end)) e in
    let g = parts (list_at 16 s h.place) (λ kinds end. whole_at s (record { groups = h.value; kinds = kinds }) end) h.rest in
    let w = passed (eqb g.place (length s)) (got (record { groups = h.value; kinds = g.value }) g.place) 40 g.place g.rest in
    let z : record { groups = h.value; kinds = g.value } ≡ names = cc in
    rw z at (both h.value g.value (list_is 64 s 0 h.first) (list_is 16 s h.place g.first))
  where
    both : (groups kinds : List (List ℕ)) → AreNames 64 groups → AreNames 16 kinds → Named (record { groups = groups; kinds = kinds })
    both groups kinds a b = record { groups = a; kinds = b }

-- A name tells its number.
same_refl : (word : List ℕ) → same word word ≡ true
unfolding same
same_refl [] = refl
same_refl (x ∷ xs) = rw (eq-eqb x x refl) (same_refl xs)

any_at : (p : List ℕ → Bool) (words : List (List ℕ)) (i : ℕ) → i < length words → p (name_of words i) ≡ true → any p words ≡ true
unfolding any name_of
any_at p [] i l h = absurd (omega arith)
any_at p (word ∷ words) zero l h = rw h refl
any_at p (word ∷ words) (suc i) l h = go (p word) (any_at p words i (omega arith) h)
  where
    go : (b : Bool) → any p words ≡ true → (b || any p words) ≡ true
    go true r = refl
    go false r = r

-- the first name is none of those after it
first_apart : (word : List ℕ) (words : List (List ℕ)) (i : ℕ) → distinct (word ∷ words) ≡ true → i < length words
    → word ≡ name_of words i → ⊥
unfolding distinct
first_apart word words i d l e =
    let h : any (same word) words ≡ false = not-true _ (both_true (not (any (same word) words)) (distinct words) d).0 in
    let k : any (same word) words ≡ true = any_at (same word) words i l (rw (← e) (same_refl word)) in
    let z : ◌≡◌ {A = ℕ} 0 1 = cc in absurd (omega arith)

distinct_tells : (names : List (List ℕ)) → distinct names ≡ true → (i j : ℕ) → i < length names → j < length names
    → name_of names i ≡ name_of names j → i ≡ j
unfolding name_of distinct
distinct_tells [] d i j l m e = absurd (omega arith)
distinct_tells (word ∷ words) d zero zero l m e = refl
distinct_tells (word ∷ words) d zero (suc j) l m e = absurd (first_apart word words j d (omega arith) e)
distinct_tells (word ∷ words) d (suc i) zero l m e = absurd (first_apart word words i d (omega arith) (sym e))
distinct_tells (word ∷ words) d (suc i) (suc j) l m e =
    ap suc (distinct_tells words (both_true (not (any (same word) words)) (distinct words) d).1 i j (omega arith) (omega arith) e)

module _ {n : ℕ} {names : List (List ℕ)} (a : AreNames n names) where
  pub name_tells : (i j : ℕ) → i < n → j < n → name_of names i ≡ name_of names j → i ≡ j
  name_tells i j l m e = distinct_tells names a.apart i j (rw a.count l) (rw a.count m) e

  -- Of any number: the empty name, past the end, has no other letters and not more.
  any_name : (P : List ℕ → Type 0) → P [] → ((word : List ℕ) → IsName word → P word) → (i : ℕ) → P (name_of names i)
  any_name P p f i = go (ltb i n) refl
    where
      go : (b : Bool) → ltb i n ≡ b → P (name_of names i)
      go true e = f (name_of names i) (a.each i (ltb-true i n e))
      go false e = unfold name_of in rw (get_or-eq_default names [] {n = i} (omega (arith, a.count, ltb-false i n e))) p

  pub name_letters : (i : ℕ) → every is_letter (name_of names i) ≡ true
  name_letters i = any_name (λ word. every is_letter word ≡ true) (unfold every in refl) (λ word h. h.letters) i

  pub name_few : (i : ℕ) → length (name_of names i) ≤ 20
  name_few i = any_name (λ word. length word ≤ 20) (omega arith) (λ word h. h.few) i

-- A letter is a byte.
pub letter_small : (b : ℕ) → is_letter b ≡ true → b < 256
unfolding is_letter
letter_small b h = go (leb 65 b && leb b 90) refl h
  where
    go : (t : Bool) → (leb 65 b && leb b 90) ≡ t → (t || (leb 97 b && leb b 122)) ≡ true → b < 256
    go true e k = omega (arith, leb-true b 90 (both_true (leb 65 b) (leb b 90) e).1)
    go false e k = omega (arith, leb-true b 122 (both_true (leb 97 b) (leb b 122) k).1)

-- A file that does not read fails question 40: no other number stands in the readings.
data IsForty {A : Type 0} : Read A → Type 0 where
  forty_got : {a : A} {k : ℕ} → IsForty (got a k)
  forty_refused : {q at : ℕ} → q ≡ 40 → IsForty (refused q at)

module _ {A : Type 0} where
  forty_then : {B : Type 0} {x : Read B} (f : B → ℕ → Read A) → IsForty x → ((b : B) (k : ℕ) → IsForty (f b k)) → IsForty (and_then x f)
  unfolding and_then
  forty_then f (forty_got {a = b} {k = k}) g = g b k
  forty_then f (forty_refused e) g = forty_refused e

  forty_cond : (t : Bool) {x y : Read A} → IsForty x → IsForty y → IsForty (cond t x y)
  forty_cond true h k = h
  forty_cond false h k = k

forty_name : (s : List ℕ) (at : ℕ) → IsForty (name_at s at)
unfolding name_at ended_at
forty_name s at =
    forty_cond (ltb 0 (length (letters_at 20 s at)) && eqb (get_or s (at + length (letters_at 20 s at)) 0) 10) forty_got (forty_refused refl)

forty_names : (n : ℕ) (s : List ℕ) (at : ℕ) → IsForty (names_at n s at)
unfolding names_at
forty_names zero s at = forty_got
forty_names (suc n) s at = forty_then _ (forty_name s at) (λ word next. forty_then _ (forty_names n s next) (λ words end. forty_got))

forty_list : (n : ℕ) (s : List ℕ) (at : ℕ) → IsForty (list_at n s at)
unfolding list_at
forty_list n s at = forty_then _ (forty_names n s at) (λ words end. forty_cond (distinct words) forty_got (forty_refused refl))

forty_file : (s : List ℕ) → IsForty (read_names s)
unfolding read_names whole_at
forty_file s =
    forty_then _ (forty_list 64 s 0) (λ groups next. forty_then _ (forty_list 16 s next) (λ kinds end.
    forty_cond (eqb end (length s)) forty_got (forty_refused refl)))

pub names_forty : (s : List ℕ) (q at : ℕ) → read_names s ≡ refused q at → q ≡ 40
names_forty s q at e = go (rw e at (forty_file s))
  where
    go : {A : Type 0} → IsForty {A = A} (refused q at) → q ≡ 40
    go (forty_refused h) = h
