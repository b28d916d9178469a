-- What each return and each turn of a loop of the sentence composer has to show, over plain values: parts stored one after another are
-- the sentence.
use Prim.Native.Nat.{ℕ, zero, suc, ◌+◌, ◌-◌, ◌*◌, ◌%◌, ◌<◌, ◌≤◌}
use native.Mathlib.Nat.{mod-eq_of_lt}
use Rattle.reading.proofs.Tables.{unset}
use mathlib.Core.Path.{◌≡◌, refl, sym, ap, ap₂, ◌∙◌}
use mathlib.Core.List.{List, [], ◌∷◌, ◌++◌}
use mathlib.Core.Bool.{Bool, true, false, cond}
use native.Mathlib.Omega.{arith}
use lib.Dec.{eqb}
use lib.ListN.{length, get_or, set, take, drop, length-take}
use lib.Seq.{drop-cons, take_all}
use borrow.Author.Rules.{rules}
use borrow.Author.Tests.{eq-eqb, ne_eqb}
use Rattle.reading.specs.Told.{path_of}
use Rattle.reading.specs.declared.Path.{Path}
use Rattle.inference.specs.Lists.{gather, rising}
use Rattle.inference.specs.Interface.{Permission}
use Rattle.interface.specs.Writes.{store_bytes, Stored}
use Rattle.naming.specs.Line.{Put}
use Rattle.naming.specs.declared.sentence.Line.{Line}
use Rattle.interface.proofs.WriteLaws.{parts_from, stored_more, Writing, write_first, write_next, write_last}
use Rattle.interface.proofs.InterfaceLaws.{one_at, ones_are}
use Rattle.fit.specs.Covers.{permission_in}
use Rattle.fit.specs.declared.Permission.{Permission as Told}
use Rattle.fit.specs.declared.Permission.TheVariants.{Read, Write, Access, Disclose}
use Rattle.naming.specs.Names.{letters_at}
use Rattle.naming.specs.Sentence.{name_of, slashed, path_names, may_not, read_verb, write_verb, access_verb, disclose_verb, verb, of_kind, sentence}
use Rattle.naming.specs.Told.{words_at, step_text, names_at_places}
use Rattle.naming.proofs.NameLaws.{letters_few}

-- Bytes that are added to a line one after another.
pub put_more : {a b c : Line} {xs ys : List ℕ} → Put a b xs → Put b c ys → Put a c (xs ++ ys)
put_more p q = record { same_memory = q.same_memory ∙ p.same_memory; stored = stored_more p.stored q.stored }

-- One byte, where there is room and where there is none.
module _ (out : List ℕ) (len byte : ℕ) where
  pub byte_stored : byte < 256 → Stored out (set out len byte) len (byte ∷ []) (len + 1)
  unfolding store_bytes
  byte_stored h = record { next = omega arith; left = rw (mod-eq_of_lt h) refl }

  pub byte_left : length out ≤ len → Stored out out len (byte ∷ []) (len + 1)
  unfolding store_bytes
  byte_left h = record { next = omega arith; left = unset out len (byte % 256) h }

-- Parts that are added in turn.
pub record Putting (f : ℕ → List ℕ) (b n : ℕ) (first line : Line) (i : ℕ) : Type 0 where
  pub same_memory : line.out.ghost_name ≡ first.out.ghost_name
  pub writing : Writing f b n first.out.now first.len line.out.now line.len i

pub putting_next : {f : ℕ → List ℕ} {b n i : ℕ} {first line after : Line} → Putting f b n first line i → i < n → Put line after (f i) → Putting f b n first after (i + 1)
putting_next w h p = record { same_memory = p.same_memory ∙ w.same_memory; writing = write_next w.writing h p.stored }

putting_end : {f : ℕ → List ℕ} {b n i : ℕ} {first line : Line} → Putting f b n first line i → n ≤ i → Put first line (parts_from f n 0)
putting_end w h = record { same_memory = w.same_memory; stored = write_last w.writing h }

-- A text, byte by byte.
module _ (text : List ℕ) where
  pub text_start : (line : Line) → Putting (one_at text) 1 (length text) line line 0
  text_start line = record { same_memory = refl; writing = write_first (one_at text) 1 (length text) line.out.now line.len (λ j. omega arith) }

  pub text_near : (first line : Line) (i : ℕ) → Putting (one_at text) 1 (length text) first line i → line.len ≤ first.len + i
  text_near first line i w = omega (arith, w.writing.near)

  pub text_next : (first line after : Line) (i byte : ℕ) → Putting (one_at text) 1 (length text) first line i → i < length text → byte ≡ get_or text i 0
      → Put line after (byte ∷ []) → Putting (one_at text) 1 (length text) first after (i + 1)
  text_next first line after i byte w h e p = putting_next w h (rw e at p)

  pub text_end : (first line : Line) (i : ℕ) → Putting (one_at text) 1 (length text) first line i → length text ≤ i → Put first line text
  text_end first line i w h = rw (ones_are text (length text) (omega arith) ∙ take_all (length text) text (omega arith)) at (putting_end w h)

-- The name of a number.
name_at_place : (s places : List ℕ) (n : ℕ) → n < length places → name_of (words_at s places) n ≡ letters_at 20 s (get_or places n 0)
unfolding name_of words_at
name_at_place s [] n h = absurd (omega arith)
name_at_place s (p ∷ places) zero h = refl
name_at_place s (p ∷ places) (suc n) h = name_at_place s places n (omega arith)

name_past : (s places : List ℕ) (n : ℕ) → length places ≤ n → name_of (words_at s places) n ≡ []
unfolding name_of words_at
name_past s [] n h = refl
name_past s (p ∷ places) zero h = absurd (omega arith)
name_past s (p ∷ places) (suc n) h = name_past s places n (omega arith)

name_short : (s places : List ℕ) (n : ℕ) → length (name_of (words_at s places) n) ≤ 20
unfolding name_of words_at
name_short s [] n = omega arith
name_short s (p ∷ places) zero = letters_few 20 s p
name_short s (p ∷ places) (suc n) = name_short s places n

module _ (s places : List ℕ) (n : ℕ) where
  pub name_found : n < length places → (place : ℕ) → place ≡ get_or places n 0 → (word : List ℕ) → word ≡ letters_at 20 s place → word ≡ name_of (words_at s places) n
  name_found h place e word f = f ∙ ap (letters_at 20 s) e ∙ sym (name_at_place s places n h)

  pub name_absent : length places ≤ n → [] ≡ name_of (words_at s places) n
  name_absent h = sym (name_past s places n h)

-- A step of a path.
module _ (names : List (List ℕ)) (i group : ℕ) (a b c : Line) (word : List ℕ) (is : word ≡ name_of names group) where
  pub first_step : i ≡ 0 → Put a b word → Put a b (step_text names i group)
  unfolding step_text
  first_step e p = rw (eq-eqb i 0 e, ← is) p

  pub later_step : (i ≡ 0 → ⊥) → Put a b (47 ∷ []) → Put b c word → Put a c (step_text names i group)
  unfolding step_text
  later_step e p q = rw (ne_eqb i 0 e, ← is) (put_more p q)

-- the part of the i-th group
abbrev pub step_at : List ℕ → List ℕ → List ℕ → ℕ → List ℕ
step_at s places groups i = step_text (words_at s places) i (get_or groups i 0)

step_short : (names : List (List ℕ)) → ((n : ℕ) → length (name_of names n) ≤ 20) → (i g : ℕ) → length (step_text names i g) ≤ 21
unfolding step_text
step_short names few i g = go (eqb i 0)
  where
    go : (b : Bool) → length (cond b (name_of names g) (47 ∷ name_of names g)) ≤ 21
    go true = omega (arith, few g)
    go false = omega (arith, few g)

-- parts after the first have a slash before each
later_step_text : (names : List (List ℕ)) (i g : ℕ) → 0 < i → step_text names i g ≡ 47 ∷ name_of names g
unfolding step_text
later_step_text names i g h = rw (ne_eqb i 0 (λ e. absurd (omega arith))) refl

later_steps : (names : List (List ℕ)) (groups : List ℕ) (from n : ℕ) → 0 < from → from + n ≤ length groups
    → gather (λ i. step_text names i (get_or groups i 0)) (rising from n) ≡ slashed names (take n (drop from groups))
unfolding gather rising slashed
later_steps names groups from zero h l = refl
later_steps names groups from (suc n) h l =
    rw (drop-cons groups from 0 (omega arith))
    (ap₂ ◌++◌ (later_step_text names from (get_or groups from 0) h) (later_steps names groups (suc from) n (omega arith) (omega arith)))

path_steps : (names : List (List ℕ)) (groups : List ℕ) (n : ℕ) → n ≤ length groups
    → parts_from (λ i. step_text names i (get_or groups i 0)) n 0 ≡ path_names names (take n groups)
unfolding parts_from gather rising path_names step_text
path_steps names groups zero h = refl
path_steps names [] (suc n) h = absurd (omega arith)
path_steps names (g ∷ rest) (suc n) h =
    let z : suc n - 0 ≡ suc n = omega arith in
    rw z (ap (λ (l : List ℕ). name_of names g ++ l) (later_steps names (g ∷ rest) 1 n (omega arith) (omega arith)))

module _ (s places groups : List ℕ) where
  pub path_start : (line : Line) → Putting (step_at s places groups) 21 (length groups) line line 0
  path_start line = record {
    same_memory = refl;
    writing = write_first (step_at s places groups) 21 (length groups) line.out.now line.len (λ j. step_short (words_at s places) (name_short s places) j (get_or groups j 0));
  }

  pub path_near : (first line : Line) (i : ℕ) → Putting (step_at s places groups) 21 (length groups) first line i → line.len ≤ first.len + 21 * i
  path_near first line i w = omega (arith, w.writing.near)

  pub path_next : (first line after : Line) (i group : ℕ) → Putting (step_at s places groups) 21 (length groups) first line i → i < length groups
      → group ≡ get_or groups i 0 → Put line after (step_text (words_at s places) i group) → Putting (step_at s places groups) 21 (length groups) first after (i + 1)
  path_next first line after i group w h e p = putting_next w h (rw e at p)

  pub path_end : (first line : Line) (i : ℕ) (path : List ℕ) → groups ≡ path → Putting (step_at s places groups) 21 (length groups) first line i → length groups ≤ i
      → Put first line (path_names (words_at s places) path)
  path_end first line i path e w h =
      rw (← e) (rw (path_steps (words_at s places) groups (length groups) (omega arith) ∙ ap (path_names (words_at s places)) (take_all (length groups) groups (omega arith))) at (putting_end w h))

pub path_few : (p : Path) (xs : List ℕ) → length p.groups ≡ 8 → xs ≡ path_of p → length xs ≤ 8
path_few p xs h e = omega (arith, ap length e, length-take p.len p.groups)

-- Verbs.
module _ (names : List (List ℕ)) (p : Told) (a b c : Line) where
  pub read_said : p ≡ Read → Put a b read_verb → Put a b (verb names (permission_in p))
  unfolding verb
  read_said e r = rw e r

  pub write_said : p ≡ Write → Put a b write_verb → Put a b (verb names (permission_in p))
  unfolding verb
  write_said e r = rw e r

  pub access_said : p ≡ Access → Put a b access_verb → Put a b (verb names (permission_in p))
  unfolding verb
  access_said e r = rw e r

  pub disclose_said : (group : ℕ) → p ≡ Disclose group → (word : List ℕ) → word ≡ name_of names group
      → Put a b disclose_verb → Put b c word → Put a c (verb names (permission_in p))
  unfolding verb
  disclose_said group e word is q r = rw (e, ← is) (put_more q r)

pub kind_said : (names : List (List ℕ)) (kind : ℕ) (a b c : Line) (word : List ℕ) → word ≡ name_of names kind
    → Put a b (58 ∷ 32 ∷ []) → Put b c word → Put a c (of_kind names kind)
unfolding of_kind
kind_said names kind a b c word is p q = rw (← is) (put_more p q)

-- what was added is as long as it is
pub put_near : (a b : Line) (xs : List ℕ) → Put a b xs → b.len ≡ a.len + length xs
put_near a b xs p = p.stored.next

-- The whole.
pub sentence_said : (s groups kinds : List ℕ) (path : List ℕ) (permission : Permission) (kind : ℕ) (a b c d e : Line) (out : List ℕ) → out ≡ e.out.now
    → Put a b (path_names (words_at s groups) path) → Put b c may_not → Put c d (verb (words_at s groups) permission) → Put d e (of_kind (words_at s kinds) kind)
    → Stored a.out.now out a.len (sentence (names_at_places s groups kinds) (record { path = path; permission = permission; kind = kind })) e.len
unfolding sentence names_at_places
sentence_said s groups kinds path permission kind a b c d e out f p q r t = rw f (put_more p (put_more q (put_more r t))).stored

pub ruleset sentence_steps = (
  rules,
  byte_stored,
  byte_left,
  text_start,
  text_near,
  text_next,
  text_end,
  name_found,
  name_absent,
  first_step,
  later_step,
  path_start,
  path_near,
  path_next,
  path_end,
  path_few,
  read_said,
  write_said,
  access_said,
  disclose_said,
  kind_said,
  put_near,
  sentence_said,
)
