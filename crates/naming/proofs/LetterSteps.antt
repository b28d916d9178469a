-- What each return and each turn of a loop over letters has to show, over plain values: the letters passed so far and those left are
-- the name.
use Prim.Native.Nat.{ℕ, zero, suc, ◌+◌, ◌-◌, ◌<◌, ◌≤◌}
use mathlib.Core.Path.{◌≡◌, refl, sym, ap, ap₂, ◌∙◌}
use mathlib.Core.List.{List, [], ◌∷◌}
use mathlib.Core.Bool.{Bool, true, false, cond, not}
use native.Mathlib.Omega.{arith}
use lib.Dec.{ltb}
use lib.ListN.{length, get_or, take, drop, length-take, length-drop, get_or-eq_default}
use lib.Seq.{drop-cons}
use native.Mathlib.Numerals.{add-one}
use Rattle.std.specs.List.{slice_range}
use borrow.Author.Rules.{rules}
use borrow.Author.Tests.{ltb-true, ltb-false, eq-eqb, ne_eqb, not-true, not-false}
use Rattle.naming.specs.Names.{is_letter, letters_at, same}

-- What is left of a name after i of its letters.
abbrev pub letters_left : List ℕ → ℕ → ℕ → List ℕ
letters_left s at i = letters_at (20 - i) s (at + i)

pub left_all : (s : List ℕ) (at : ℕ) → letters_left s at 0 ≡ letters_at 20 s at
left_all s at = ap (letters_at 20 s) (omega arith)

module _ (s : List ℕ) (at i x : ℕ) (b : Bool) (is : x ≡ get_or s (at + i) 0) (test : b ≡ is_letter x) where
  left_next : i < 20 → letters_left s at i ≡ cond b (x ∷ letters_left s at (i + 1)) []
  unfolding letters_at
  left_next h =
      let z : 20 - i ≡ suc (20 - (i + 1)) = omega arith in
      let w : at + i + 1 ≡ at + (i + 1) = omega arith in
      rw (z, w, ← is, ← test) refl

  pub left_letter : i < 20 → b ≡ true → letters_left s at i ≡ x ∷ letters_left s at (i + 1)
  left_letter h e = left_next h ∙ rw e refl

  pub left_end : i < 20 → b ≡ false → letters_left s at i ≡ []
  left_end h e = left_next h ∙ rw e refl

pub left_none : (s : List ℕ) (at i : ℕ) → 20 ≤ i → letters_left s at i ≡ []
unfolding letters_at
left_none s at i h = let z : 20 - i ≡ 0 = omega arith in rw z refl

-- Counting.
pub record Counted (s : List ℕ) (at n : ℕ) : Type 0 where
  pub within : n ≤ 20
  pub same : length (letters_at 20 s at) ≡ n + length (letters_left s at n)

pub count_start : (s : List ℕ) (at : ℕ) → Counted s at 0
count_start s at = record { within = omega arith; same = omega (arith, ap length (left_all s at)) }

module _ (s : List ℕ) (at n : ℕ) (so : Counted s at n) where
  pub count_more : (x : ℕ) (b : Bool) → n < 20 → x ≡ get_or s (at + n) 0 → b ≡ is_letter x → not b ≡ false → Counted s at (n + 1)
  count_more x b h e f g = record {
    within = omega arith;
    same = omega (arith, so.same, ap length (left_letter s at n x b e f h (not-false b g)));
  }

  pub count_ends : (x : ℕ) (b : Bool) → n < 20 → x ≡ get_or s (at + n) 0 → b ≡ is_letter x → not b ≡ true
      → n ≡ length (letters_at 20 s at)
  count_ends x b h e f g = omega (arith, so.same, ap length (left_end s at n x b e f h (not-true b g)))

  pub count_full : 20 ≤ n → n ≡ length (letters_at 20 s at)
  count_full h = omega (arith, so.same, ap length (left_none s at n h))

-- Comparing.
pub record Compared (s : List ℕ) (a b i : ℕ) : Type 0 where
  pub within : i ≤ 20
  pub so_far : same (letters_at 20 s a) (letters_at 20 s b) ≡ same (letters_left s a i) (letters_left s b i)

pub compare_start : (s : List ℕ) (a b : ℕ) → Compared s a b 0
compare_start s a b = record { within = omega arith; so_far = ap₂ same (sym (left_all s a)) (sym (left_all s b)) }

module _ (s : List ℕ) (a b i : ℕ) (so : Compared s a b i) (x y : ℕ) (ex : x ≡ get_or s (a + i) 0) (ey : y ≡ get_or s (b + i) 0) (here : i < 20)
    (t : Bool) (tx : t ≡ is_letter x) where
  pub first_ends : not t ≡ true → (u : Bool) → u ≡ is_letter y → not u ≡ same (letters_at 20 s a) (letters_at 20 s b)
  unfolding same
  first_ends g u uy =
      sym (so.so_far ∙ ap₂ same (left_end s a i x t ex tx here (not-true t g)) (left_next s b i y u ey uy here) ∙ go u)
    where
      go : (v : Bool) → same [] (cond v (y ∷ letters_left s b (i + 1)) []) ≡ not v
      go true = refl
      go false = refl

  pub letters_differ : not t ≡ false → (x ≡ y → ⊥) → false ≡ same (letters_at 20 s a) (letters_at 20 s b)
  unfolding same
  letters_differ g n =
      sym (so.so_far ∙ ap₂ same (left_letter s a i x t ex tx here (not-false t g)) (left_next s b i y (is_letter y) ey refl here) ∙ go (is_letter y))
    where
      go : (v : Bool) → same (x ∷ letters_left s a (i + 1)) (cond v (y ∷ letters_left s b (i + 1)) []) ≡ false
      go true = rw (ne_eqb x y n) refl
      go false = refl

  pub letters_agree : not t ≡ false → x ≡ y → Compared s a b (i + 1)
  unfolding same
  letters_agree g e = record {
    within = omega arith;
    so_far = so.so_far
        ∙ ap₂ same (left_letter s a i x t ex tx here (not-false t g)) (left_letter s b i y t ey (tx ∙ ap is_letter e) here (not-false t g))
        ∙ rw (eq-eqb x y e) refl;
  }

pub all_agree_lem : (s : List ℕ) (a b i : ℕ) → Compared s a b i → 20 ≤ i → true ≡ same (letters_at 20 s a) (letters_at 20 s b)
unfolding same
all_agree_lem s a b i so h = sym (so.so_far ∙ ap₂ same (left_none s a i h) (left_none s b i h))

-- The letters from a place on are a part of the text: past its end there is no letter.
no_letter : is_letter 0 ≡ false
unfolding is_letter
no_letter = refl

letter_within : (s : List ℕ) (at : ℕ) → is_letter (get_or s at 0) ≡ true → at < length s
letter_within s at e = go (ltb at (length s)) refl
  where
    go : (b : Bool) → ltb at (length s) ≡ b → at < length s
    go true f = ltb-true at (length s) f
    go false f = let z : is_letter 0 ≡ true = rw (get_or-eq_default s 0 {n = at} (ltb-false at (length s) f)) at e in let q : ◌≡◌ {A = Bool} true false = sym z ∙ no_letter in cc

word_part : (n : ℕ) (s : List ℕ) (at : ℕ) → letters_at n s at ≡ take (length (letters_at n s at)) (drop at s)
unfolding letters_at
word_part zero s at = refl
word_part (suc n) s at = go (is_letter (get_or s at 0)) refl (word_part n s (at + 1))
  where
    go : (b : Bool) → is_letter (get_or s at 0) ≡ b → letters_at n s (at + 1) ≡ take (length (letters_at n s (at + 1))) (drop (at + 1) s)
        → cond b (get_or s at 0 ∷ letters_at n s (at + 1)) [] ≡ take (length (cond b (get_or s at 0 ∷ letters_at n s (at + 1)) [])) (drop at s)
    go false e rest = refl
    go true e rest =
        let one : drop at s ≡ get_or s at 0 ∷ drop (at + 1) s = rw (drop-cons s at 0 (letter_within s at e), ← add-one) in
        ap (λ (l : List ℕ). get_or s at 0 ∷ l) rest ∙ ap (take (suc (length (letters_at n s (at + 1))))) (sym one)

module _ (s : List ℕ) (at len : ℕ) (is : len ≡ length (letters_at 20 s at)) where
  pub word_none : len ≡ 0 → [] ≡ letters_at 20 s at
  word_none e = go (letters_at 20 s at) (sym is ∙ e)
    where
      go : (l : List ℕ) → length l ≡ 0 → [] ≡ l
      go [] f = refl
      go (x ∷ l) f = absurd (omega arith)

  pub word_some : (len ≡ 0 → ⊥) → slice_range s at (at + len) ≡ letters_at 20 s at
  word_some e = let z : at + len - at ≡ len = omega arith in rw (z, is) (sym (word_part 20 s at))

  pub word_within : (len ≡ 0 → ⊥) → at + len ≤ length s
  word_within e = omega (arith, is, ap length (word_part 20 s at), length-take (length (letters_at 20 s at)) (drop at s), length-drop at s)

pub ruleset letter_steps = (
  rules,
  count_start,
  count_more,
  count_ends,
  count_full,
  compare_start,
  first_ends,
  letters_differ,
  letters_agree,
  all_agree_lem,
  word_none,
  word_some,
  word_within,
)
