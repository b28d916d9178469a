-- What each return and each turn of a loop of the names reader has to show, over plain values: the names read so far and those left are
-- all of them.
use Prim.Native.Nat.{ℕ, suc, ◌+◌, ◌-◌, ◌*◌, ◌<◌, ◌≤◌}
use mathlib.Core.Path.{◌≡◌, refl, sym, ap, ◌∙◌}
use mathlib.Core.List.{List, [], ◌∷◌, ◌++◌, map, map-append, append_assoc, append-nil}
use mathlib.Core.Bool.{Bool, true, false, not, ◌&&◌, ◌||◌}
use native.Mathlib.Numerals.{add-one}
use native.Mathlib.Omega.{arith}
use lib.ListN.{length, get_or, set, take, drop, length-set, length-drop, drop_of_length-le}
use lib.Seq.{drop-cons, take-suc-set, take_all}
use borrow.Author.Rules.{rules}
use borrow.Author.Tests.{lt-ltb, eq-eqb, ne_eqb}
use Rattle.reading.specs.Read.{Read, got, refused, and_then}
use Rattle.std.specs.Prelude.{Result, Ok, Err}
use Rattle.reading.specs.declared.Question.TheVariants as question
use Rattle.reading.specs.declared.Refusal.{Refusal}
use Rattle.inference.specs.Lists.{any}
use Rattle.std.specs.List.{list_any}
use Rattle.naming.specs.Names.{letters_at, ended_at, name_at, names_at, same, distinct, list_at, Names, whole_at, read_names}
use Rattle.naming.specs.Told.{ends, after, words_at, names_at_places}

-- Question 40 fails.
abbrev Broken : ℕ → Result ℕ Refusal → Type 0
Broken at r = r ≡ Err (record { question = question.Names; at = at })

-- nothing was read, so nothing is far
pub refused_near : (r : Result ℕ Refusal) (q : Refusal) (far : ℕ) → r ≡ Err q → after r ≤ far
refused_near r q far e = rw e (omega arith)

pub read_near : (r : Result ℕ Refusal) (k far : ℕ) → r ≡ Ok k → after r ≤ far → k ≤ far
read_near r k far e h = rw e at h

-- One name.
module _ (s : List ℕ) (at len : ℕ) (is : len ≡ length (letters_at 20 s at)) (r : Result ℕ Refusal) where
  pub no_letters : len ≡ 0 → Broken at r → ends r (letters_at 20 s at) ≡ name_at s at
  unfolding name_at ended_at
  no_letters h e = rw (e, ← is, h) refl

  pub not_ended : (len ≡ 0 → ⊥) → (b : ℕ) → b ≡ get_or s (at + len) 0 → (b ≡ 10 → ⊥) → Broken at r → ends r (letters_at 20 s at) ≡ name_at s at
  unfolding name_at ended_at
  not_ended h b f g e = rw (e, ← is, lt-ltb 0 len (omega (arith, h)), ← f, ne_eqb b 10 g) refl

pub ended_well : (s : List ℕ) (at len : ℕ) → len ≡ length (letters_at 20 s at) → (len ≡ 0 → ⊥) → (b : ℕ) → b ≡ get_or s (at + len) 0 → b ≡ 10
    → ends (Ok (at + len + 1)) (letters_at 20 s at) ≡ name_at s at
unfolding name_at ended_at
ended_well s at len is h b f g = rw (← is, lt-ltb 0 len (omega (arith, h)), ← f, eq-eqb b 10 g) refl

-- Names read after others.
unfoldable pub prefixed : List (List ℕ) → Read (List (List ℕ)) → Read (List (List ℕ))
prefixed words r = and_then r (λ rest end. got (words ++ rest) end)

prefixed_more : (words : List (List ℕ)) (word : List ℕ) (r : Read (List (List ℕ)))
    → prefixed words (and_then r (λ rest end. got (word ∷ rest) end)) ≡ prefixed (words ++ (word ∷ [])) r
unfolding prefixed and_then
prefixed_more words word (got rest k) = ap (λ (l : List (List ℕ)). got l k) (sym (append_assoc words (word ∷ []) rest))
prefixed_more words word (refused q k) = refl

-- The names read so far begin at the first places; those left are read from here.
pub record NamesSoFar (s : List ℕ) (at : ℕ) (places₀ places : List ℕ) (next i : ℕ) : Type 0 where
  pub within : i ≤ length places
  pub long : length places ≡ length places₀
  pub few : length places ≤ 64
  pub near : next ≤ at + 21 * i
  pub whole : names_at (length places₀) s at ≡ prefixed (words_at s (take i places)) (names_at (length places₀ - i) s next)

pub names_start : (s : List ℕ) (at : ℕ) (places : List ℕ) → length places ≤ 64 → NamesSoFar s at places places at 0
unfolding words_at prefixed
names_start s at places few = record {
  within = omega arith;
  long = refl;
  few = few;
  near = omega arith;
  whole = go (names_at (length places) s at) ∙ ap (λ (n : ℕ). prefixed [] (names_at n s at)) (omega arith);
}
  where
    go : (r : Read (List (List ℕ))) → r ≡ and_then r (λ rest end. got rest end)
    go (got a k) = unfold and_then in refl
    go (refused q k) = unfold and_then in refl

module _ (s : List ℕ) (at : ℕ) (places₀ places : List ℕ) (next i : ℕ) (so : NamesSoFar s at places₀ places next i) (here : i < length places) (read : Result ℕ Refusal)
    (told : ends read (letters_at 20 s next) ≡ name_at s next) where
  name_turn : names_at (length places₀) s at
      ≡ prefixed (words_at s (take i places)) (and_then (ends read (letters_at 20 s next)) (λ word k. and_then (names_at (length places₀ - (i + 1)) s k) (λ words end. got (word ∷ words) end)))
  unfolding names_at
  name_turn =
      let z : length places₀ - i ≡ suc (length places₀ - (i + 1)) = omega (arith, so.long) in
      so.whole ∙ rw (z, ← told) refl

  pub name_next : (k : ℕ) → read ≡ Ok k → after read ≤ next + 21 → NamesSoFar s at places₀ (set places i next) k (i + 1)
  unfolding and_then words_at
  name_next k e n = record {
    within = omega (arith, length-set places i next);
    long = length-set places i next ∙ so.long;
    few = omega (arith, so.few, length-set places i next);
    near = let m : k ≤ next + 21 = rw e at n in omega (arith, so.near);
    whole = name_turn ∙ rw (e, add-one, take-suc-set places i next here)
        (prefixed_more (map (letters_at 20 s) (take i places)) (letters_at 20 s next) (names_at (length places₀ - (suc i)) s k)
        ∙ ap (λ (l : List (List ℕ)). prefixed l (names_at (length places₀ - (suc i)) s k)) (sym (map-append (letters_at 20 s) (take i places) (next ∷ []))));
  }

  pub name_broken : (q : Refusal) → read ≡ Err q → ends read (words_at s (set places i next)) ≡ names_at (length places₀) s at
  unfolding and_then prefixed
  name_broken q e = rw e (sym (name_turn ∙ rw e refl))

module _ (s : List ℕ) (at : ℕ) (places₀ places : List ℕ) (next i : ℕ) (so : NamesSoFar s at places₀ places next i) (done : length places ≤ i) where
  pub names_end : ends (Ok next) (words_at s places) ≡ names_at (length places₀) s at
  unfolding names_at prefixed and_then words_at
  names_end =
      let z : length places₀ - i ≡ 0 = omega (arith, so.long) in
      sym (so.whole ∙ rw (z, take_all i places done) (ap (λ (l : List (List ℕ)). got l next) (append-nil (map (letters_at 20 s) places))))

  pub names_near : after (Ok next) ≤ at + 21 * length places₀
  names_near = let m : i ≡ length places₀ = omega (arith, so.within, so.long) in rw (← m) so.near

-- A slice from a place on.
pub rest_of : (l : List ℕ) (k : ℕ) → take (length l - k) (drop k l) ≡ drop k l
rest_of l k = take_all (length l - k) (drop k l) (omega (arith, length-drop k l))

-- Whether a name is among those that begin at some places.
pub among_words : (s word places : List ℕ) → list_any (λ (p : ℕ). same word (letters_at 20 s p)) places ≡ any (same word) (words_at s places)
unfolding any words_at
among_words s word [] = refl
among_words s word (p ∷ places) = ap (λ b. same word (letters_at 20 s p) || b) (among_words s word places)

-- Each of the names passed so far is none of those after it.
pub record ApartSoFar (s places : List ℕ) (i : ℕ) : Type 0 where
  pub so_far : distinct (words_at s places) ≡ distinct (words_at s (drop i places))

pub apart_start : (s places : List ℕ) → ApartSoFar s places 0
apart_start s places = record { so_far = refl }

module _ (s places : List ℕ) (i : ℕ) (so : ApartSoFar s places i) where
  apart_turn : i < length places → distinct (words_at s places)
      ≡ (not (any (same (letters_at 20 s (get_or places i 0))) (words_at s (drop (i + 1) places))) && distinct (words_at s (drop (i + 1) places)))
  unfolding words_at distinct
  apart_turn h = so.so_far ∙ rw (drop-cons places i 0 h, add-one) refl

  pub repeated : (x : ℕ) (b : Bool) → i < length places → x ≡ get_or places i 0 → (later : List ℕ) → later ≡ drop (i + 1) places → b ≡ any (same (letters_at 20 s x)) (words_at s later)
      → b ≡ true → false ≡ distinct (words_at s places)
  repeated x b h e later l f g = sym (apart_turn h ∙ rw (← e, ← l, ← f, g) refl)

  pub not_repeated : (x : ℕ) (b : Bool) → i < length places → x ≡ get_or places i 0 → (later : List ℕ) → later ≡ drop (i + 1) places → b ≡ any (same (letters_at 20 s x)) (words_at s later)
      → b ≡ false → ApartSoFar s places (i + 1)
  not_repeated x b h e later l f g = record { so_far = apart_turn h ∙ rw (← e, ← l, ← f, g) refl }

  pub all_apart : length places ≤ i → true ≡ distinct (words_at s places)
  unfolding words_at distinct
  all_apart h = sym (so.so_far ∙ rw (drop_of_length-le places {i = i} h) refl)

-- A list of names.
module _ (s : List ℕ) (at n : ℕ) (places : List ℕ) (read : Result ℕ Refusal) (told : ends read (words_at s places) ≡ names_at n s at) where
  pub list_broken : (q : Refusal) → read ≡ Err q → ends read (words_at s places) ≡ list_at n s at
  unfolding list_at and_then
  list_broken q e = rw (← told, e) refl

  module _ (k : ℕ) (e : read ≡ Ok k) (b : Bool) (d : b ≡ distinct (words_at s places)) where
    pub list_read : b ≡ true → ends read (words_at s places) ≡ list_at n s at
    unfolding list_at and_then
    list_read g = rw (← told, e, ← d, g) refl

    pub list_repeats : b ≡ false → (r : Result ℕ Refusal) → Broken at r → ends r (words_at s places) ≡ list_at n s at
    unfolding list_at and_then
    list_repeats g r f = rw (← told, e, ← d, g, f) refl

-- The whole file.
module _ (s groups kinds : List ℕ) (m n : ℕ) (of_groups : m ≡ 64) (of_kinds : n ≡ 16) (first : Result ℕ Refusal) (told : ends first (words_at s groups) ≡ list_at m s 0) where
  pub groups_broken : (q : Refusal) → first ≡ Err q → ends first (names_at_places s groups kinds) ≡ read_names s
  unfolding read_names and_then
  groups_broken q e = rw (← of_groups, ← told, e) refl

  module _ (k : ℕ) (e : first ≡ Ok k) (second : Result ℕ Refusal) (more : ends second (words_at s kinds) ≡ list_at n s k) where
    pub kinds_broken : (q : Refusal) → second ≡ Err q → ends second (names_at_places s groups kinds) ≡ read_names s
    unfolding read_names and_then
    kinds_broken q f = rw (← of_groups, ← told, e, ← of_kinds, ← more, f) refl

    module _ (l : ℕ) (f : second ≡ Ok l) where
      pub names_whole : l ≡ length s → ends (Ok l) (names_at_places s groups kinds) ≡ read_names s
      unfolding read_names and_then whole_at names_at_places
      names_whole g = rw (← of_groups, ← told, e, ← of_kinds, ← more, f, eq-eqb l (length s) g) refl

      pub names_over : (l ≡ length s → ⊥) → (r : Result ℕ Refusal) → Broken l r → ends r (names_at_places s groups kinds) ≡ read_names s
      unfolding read_names and_then whole_at
      names_over g r h = rw (← of_groups, ← told, e, ← of_kinds, ← more, f, ne_eqb l (length s) g, h) refl

pub ruleset name_steps = (
  rules,
  refused_near,
  no_letters,
  not_ended,
  ended_well,
  names_start,
  name_next,
  name_broken,
  names_end,
  names_near,
  rest_of,
  apart_start,
  repeated,
  not_repeated,
  all_apart,
  list_broken,
  list_read,
  list_repeats,
  groups_broken,
  kinds_broken,
  names_whole,
  names_over,
)
