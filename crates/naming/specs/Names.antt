-- The names file (document 02, Q-1): "A names file gives each group and kind a name of 1 to 20 letters A-Z or a-z, each ended by
-- the byte 0A: 64 groups, then 16 kinds, distinct within each list, nothing after."
use Rattle.std.specs.Prelude.{ℕ, zero, suc, ◌+◌, List, [], ◌∷◌, Bool, true, false, cond, not, ◌&&◌, ◌||◌, length, get_or, ltb, leb, eqb}
use Rattle.reading.specs.Read.{Read, got, refused, and_then}
use Rattle.inference.specs.Lists.{any}

-- "letters A-Z or a-z"
unfoldable pub is_letter : ℕ → Bool
is_letter b = (leb 65 b && leb b 90) || (leb 97 b && leb b 122)

-- The letters that stand from a place on, at most n. (The 0 of `get_or`, past the end, is no letter.)
unfoldable pub letters_at : ℕ → List ℕ → ℕ → List ℕ
letters_at zero s at = []
letters_at (suc n) s at = cond (is_letter (get_or s at 0)) (get_or s at 0 ∷ letters_at n s (at + 1)) []

-- Question 40 of one name: "1 to 20 letters", and "the byte 0A" right after them.
unfoldable pub ended_at : List ℕ → ℕ → List ℕ → Read (List ℕ)
ended_at s at word =
    cond (ltb 0 (length word) && eqb (get_or s (at + length word) 0) 10) (got word (at + length word + 1)) (refused 40 at)

unfoldable pub name_at : List ℕ → ℕ → Read (List ℕ)
name_at s at = ended_at s at (letters_at 20 s at)

-- So many names.
unfoldable pub names_at : ℕ → List ℕ → ℕ → Read (List (List ℕ))
names_at zero s at = got [] at
names_at (suc n) s at = and_then (name_at s at) (λ word next. and_then (names_at n s next) (λ words end. got (word ∷ words) end))

-- "distinct"
unfoldable pub same : List ℕ → List ℕ → Bool
same [] [] = true
same [] (y ∷ ys) = false
same (x ∷ xs) [] = false
same (x ∷ xs) (y ∷ ys) = eqb x y && same xs ys

unfoldable pub distinct : List (List ℕ) → Bool
distinct [] = true
distinct (word ∷ words) = not (any (same word) words) && distinct words

-- So many names that are distinct.
unfoldable pub list_at : ℕ → List ℕ → ℕ → Read (List (List ℕ))
list_at n s at = and_then (names_at n s at) (λ words end. cond (distinct words) (got words end) (refused 40 at))

pub record Names : Type 0 where
  pub groups : List (List ℕ)
  pub kinds : List (List ℕ)

-- "nothing after"
unfoldable pub whole_at : List ℕ → Names → ℕ → Read Names
whole_at s names end = cond (eqb end (length s)) (got names end) (refused 40 end)

-- The names that a file gives, or 40.
unfoldable pub read_names : List ℕ → Read Names
read_names s =
    and_then (list_at 64 s 0) (λ groups next.
    and_then (list_at 16 s next) (λ kinds end. whole_at s (record { groups = groups; kinds = kinds }) end))
