-- The questions that a reading fails are numbered 1 to 6: each refusal in the reader's definitions has such a number, and
-- readings one after another, tests and limits add no other.
use Prim.Native.Nat.{ℕ, zero, suc, ◌+◌, ◌≤◌}
use mathlib.Core.Bool.{Bool, true, false, cond, ◌&&◌}
use mathlib.Core.List.{List, [], ◌∷◌, ◌++◌}
use mathlib.Core.Path.{◌≡◌}
use native.Mathlib.Omega.{arith}
use lib.Dec.{ltb, leb, eqb}
use lib.ListN.{length}
use Rattle.reading.specs.Dialects.{current, groups_in, kinds_in, purposes_in}
use Rattle.reading.specs.Read.{Read, got, refused, and_then, byte_at, below}
use Rattle.reading.specs.Types.{channel, groups_then_kind_in, type_at_in}
use Rattle.reading.specs.Syntax.{Process, System, components}
use Rattle.reading.specs.Forms.{member, limited, new_form_in, input_form_in, output_form, fresh_group_in, group_form_in, purpose_in, component_form_in, process_form_in, process_at_in, system_form_in, system_at_in}
use Rattle.reading.specs.System.{process_from, read_process_in, component, system_from, read_system_in, free_types_in, header_in, to_its_end, read_sheet_in, sheet_of_in, sheet_of}
use Rattle.reading.specs.declared.Dialect.{Dialect}
use Rattle.reading.specs.declared.Form.{Form}
use Rattle.reading.specs.declared.Form.TheVariants.{Nil, Par, Group, New, Component, Input, Output, Replicate}

-- One of questions 1 to 6.
pub record Early (question : ℕ) : Type 0 where
  pub first : 1 ≤ question
  pub last : question ≤ 6

-- A reading that fails one of them, if any.
pub data Asks {A : Type 0} : Read A → Type 0 where
  asks_got : {a : A} {k : ℕ} → Asks (got a k)
  asks_refused : {q p : ℕ} → Early q → Asks (refused q p)

-- What keeps it.
module _ {A : Type 0} where
  asks_early : (q p : ℕ) → 1 ≤ q → q ≤ 6 → Asks {A = A} (refused q p)
  asks_early q p h k = asks_refused (record { first = h; last = k })

  asks_cond : (t : Bool) {x y : Read A} → Asks x → Asks y → Asks (cond t x y)
  asks_cond true h k = h
  asks_cond false h k = k

  asks_limited : (t : Bool) (at : ℕ) {x : Read A} → Asks x → Asks (limited t at x)
  unfolding limited
  asks_limited true at h = h
  asks_limited false at h = asks_early 5 at (omega arith) (omega arith)

  asks_then : {B : Type 0} {x : Read B} (f : B → ℕ → Read A) → Asks x → ((b : B) (k : ℕ) → Asks (f b k)) → Asks (and_then x f)
  unfolding and_then
  asks_then f (asks_got {a = b} {k = k}) h = h b k
  asks_then f (asks_refused e) h = asks_refused e

asks_map : {A B : Type 0} {x : Read B} (f : B → A) → Asks x → Asks (and_then x (λ b k. got (f b) k))
asks_map f h = asks_then _ h (λ b k. asks_got)

-- Bytes and types.
asks_byte : (s : List ℕ) (at : ℕ) → Asks (byte_at s at)
unfolding byte_at
asks_byte s at = asks_cond (ltb at (length s)) asks_got (asks_early 2 at (omega arith) (omega arith))

asks_below : (n : ℕ) (s : List ℕ) (at : ℕ) → Asks (below n s at)
unfolding below
asks_below n s at = asks_then _ (asks_byte s at) (λ b k. asks_cond (ltb b n) asks_got (asks_early 4 at (omega arith) (omega arith)))

asks_groups : (d : Dialect) (n : ℕ) (s : List ℕ) (at : ℕ) → Asks (groups_then_kind_in d n s at)
unfolding groups_then_kind_in
asks_groups d zero s at = asks_below (kinds_in d) s at
asks_groups d (suc n) s at = asks_then _ (asks_below (groups_in d) s at) (λ g k. asks_map (channel g) (asks_groups d n s k))

asks_type : (d : Dialect) (s : List ℕ) (at : ℕ) → Asks (type_at_in d s at)
unfolding type_at_in
asks_type d s at = asks_then _ (asks_below 5 s at) (λ n k. asks_groups d n s k)

-- Forms.
asks_new : (d : Dialect) (s : List ℕ) (at : ℕ) → Asks (new_form_in d s at)
unfolding new_form_in
asks_new d s at = asks_map (λ t. New t) (asks_type d s at)

asks_input : (d : Dialect) (s : List ℕ) (at : ℕ) → Asks (input_form_in d s at)
unfolding input_form_in
asks_input d s at = asks_then _ (asks_byte s at) (λ x k. asks_map (λ t. Input (record { channel = x; object = t })) (asks_type d s k))

asks_output : (s : List ℕ) (at : ℕ) → Asks (output_form s at)
unfolding output_form
asks_output s at = asks_then _ (asks_byte s at) (λ x k. asks_map (λ y. Output (record { channel = x; object = y })) (asks_byte s k))

asks_fresh : (d : Dialect) (s : List ℕ) (at : ℕ) (path : List ℕ) → Asks (fresh_group_in d s at path)
unfolding fresh_group_in
asks_fresh d s at path =
    asks_then _ (asks_below (groups_in d) s at) (λ g k. asks_cond (member g path) (asks_early 6 at (omega arith) (omega arith)) asks_got)

asks_purpose : (d : Dialect) (s : List ℕ) (at : ℕ) → Asks (purpose_in d s at)
unfolding purpose_in
asks_purpose d s at = asks_cond (ltb 0 (purposes_in d)) (asks_below (purposes_in d) s at) asks_got

asks_component : (d : Dialect) (s : List ℕ) (at : ℕ) (path : List ℕ) → Asks (component_form_in d s at path)
unfolding component_form_in
asks_component d s at path =
    asks_then _ (asks_fresh d s at path) (λ g m. asks_map (λ p. Component (record { group = g; purpose = p })) (asks_purpose d s m))

asks_process_form : (d : Dialect) (s : List ℕ) (at next : ℕ) (level binder : Bool) (code : ℕ) → Asks (process_form_in d s at next level binder code)
unfolding process_form_in
asks_process_form d s at next level binder code =
    asks_cond (eqb code 0) (asks_limited level at asks_got)
    (asks_cond (eqb code 1) (asks_limited level at asks_got)
    (asks_cond (eqb code 3) (asks_limited binder at (asks_new d s next))
    (asks_cond (eqb code 5) (asks_limited binder at (asks_input d s next))
    (asks_cond (eqb code 6) (asks_limited level at (asks_output s next))
    (asks_cond (eqb code 7) (asks_limited level at asks_got)
    (asks_early 4 at (omega arith) (omega arith)))))))

asks_process_at : (d : Dialect) (s : List ℕ) (at nest names : ℕ) → Asks (process_at_in d s at nest names)
unfolding process_at_in
asks_process_at d s at nest names =
    asks_then _ (asks_byte s at) (λ code next. asks_process_form d s at next (ltb 0 nest) (ltb 0 nest && ltb names 64) code)

asks_system_form : (d : Dialect) (s : List ℕ) (at next : ℕ) (path : List ℕ) (level binder deeper another : Bool) (code : ℕ)
    → Asks (system_form_in d s at next path level binder deeper another code)
unfolding system_form_in group_form_in
asks_system_form d s at next path level binder deeper another code =
    asks_cond (eqb code 0) (asks_limited level at asks_got)
    (asks_cond (eqb code 1) (asks_limited level at asks_got)
    (asks_cond (eqb code 2) (asks_limited deeper at (asks_map (λ g. Group g) (asks_fresh d s next path)))
    (asks_cond (eqb code 3) (asks_limited binder at (asks_new d s next))
    (asks_cond (eqb code 4) (asks_limited another at (asks_component d s next path))
    (asks_early 4 at (omega arith) (omega arith))))))

asks_system_at : (d : Dialect) (s : List ℕ) (at nest names : ℕ) (path : List ℕ) (preceding : ℕ) → Asks (system_at_in d s at nest names path preceding)
unfolding system_at_in
asks_system_at d s at nest names path preceding = asks_then _ (asks_byte s at) (λ code next. asks_system_form d s at next path _ _ _ _ code)

-- Processes.
asks_process_from : (read : ℕ → ℕ → Read Process) → ((names at : ℕ) → Asks (read names at)) → (at names : ℕ) (f : Form) (next : ℕ)
    → Asks (process_from read at names f next)
unfolding process_from
asks_process_from read h at names Nil next = asks_got
asks_process_from read h at names Par next = asks_then _ (h names next) (λ p m. asks_map _ (h names m))
asks_process_from read h at names (New t) next = asks_map _ (h (names + 1) next)
asks_process_from read h at names (Input a) next = asks_map _ (h (names + 1) next)
asks_process_from read h at names (Output a) next = asks_map _ (h names next)
asks_process_from read h at names Replicate next = asks_map _ (h names next)
asks_process_from read h at names (Group g) next = asks_early 4 at (omega arith) (omega arith)
asks_process_from read h at names (Component own) next = asks_early 4 at (omega arith) (omega arith)

asks_process : (d : Dialect) (nest : ℕ) (s : List ℕ) (names at : ℕ) → Asks (read_process_in d nest s names at)
unfolding read_process_in
asks_process d zero s names at = asks_then _ (asks_process_at d s at 0 names) (λ f k. asks_early 5 at (omega arith) (omega arith))
asks_process d (suc n) s names at =
    asks_then _ (asks_process_at d s at (suc n) names) (λ f next.
    asks_process_from (λ ns m. read_process_in d n s ns m) (λ ns m. asks_process d n s ns m) at names f next)

-- Systems.
asks_system_from : (read : ℕ → List ℕ → ℕ → ℕ → Read System) → ((names : ℕ) (path : List ℕ) (preceding at : ℕ) → Asks (read names path preceding at))
    → (process : ℕ → Read Process) → ((at : ℕ) → Asks (process at)) → (at names : ℕ) (path : List ℕ) (preceding : ℕ) (f : Form) (next : ℕ)
    → Asks (system_from read process at names path preceding f next)
unfolding system_from component
asks_system_from read h process i at names path preceding Nil next = asks_got
asks_system_from read h process i at names path preceding Par next =
    asks_then _ (h names path preceding next) (λ l m. asks_map _ (h names path (preceding + components l) m))
asks_system_from read h process i at names path preceding (Group g) next = asks_map _ (h names (path ++ (g ∷ [])) preceding next)
asks_system_from read h process i at names path preceding (New t) next = asks_map _ (h (names + 1) path preceding next)
asks_system_from read h process i at names path preceding (Component own) next = asks_map _ (i next)
asks_system_from read h process i at names path preceding (Input a) next = asks_early 4 at (omega arith) (omega arith)
asks_system_from read h process i at names path preceding (Output a) next = asks_early 4 at (omega arith) (omega arith)
asks_system_from read h process i at names path preceding Replicate next = asks_early 4 at (omega arith) (omega arith)

asks_system : (d : Dialect) (nest : ℕ) (s : List ℕ) (names : ℕ) (path : List ℕ) (preceding at : ℕ) → Asks (read_system_in d nest s names path preceding at)
unfolding read_system_in
asks_system d zero s names path preceding at =
    asks_then _ (asks_system_at d s at 0 names path preceding) (λ f k. asks_early 5 at (omega arith) (omega arith))
asks_system d (suc n) s names path preceding at =
    asks_then _ (asks_system_at d s at (suc n) names path preceding) (λ f next.
    asks_system_from (λ ns p k m. read_system_in d n s ns p k m) (λ ns p k m. asks_system d n s ns p k m)
    (λ m. read_process_in d n s names m) (λ m. asks_process d n s names m) at names path preceding f next)

-- Sheets.
asks_types : (d : Dialect) (n : ℕ) (s : List ℕ) (at : ℕ) → Asks (free_types_in d n s at)
unfolding free_types_in
asks_types d zero s at = asks_got
asks_types d (suc n) s at = asks_then _ (asks_type d s at) (λ t k. asks_map (λ ts. t ∷ ts) (asks_types d n s k))

asks_header : (d : Dialect) (s : List ℕ) → Asks (header_in d s)
unfolding header_in
asks_header d s = asks_then _ (asks_below 33 s 0) (λ n k. asks_types d n s k)

asks_sheet : (d : Dialect) (s : List ℕ) → Asks (read_sheet_in d s)
unfolding read_sheet_in to_its_end
asks_sheet d s =
    asks_then _ (asks_header d s) (λ free at.
    asks_then _ (asks_system d 64 s (length free) [] 0 at) (λ system next.
    asks_cond (eqb next (length s)) asks_got (asks_early 3 next (omega arith) (omega arith))))

asks_sheet_of : (d : Dialect) (s charter : List ℕ) → Asks (sheet_of_in d s charter)
unfolding sheet_of_in
asks_sheet_of d s charter =
    asks_cond (leb (length s) 4096 && leb (length charter) 4096) (asks_sheet d s) (asks_early 1 4096 (omega arith) (omega arith))

early : {A : Type 0} {r : Read A} {q p : ℕ} → Asks r → r ≡ refused q p → Early q
early asks_got e = let z : ◌≡◌ {A = ℕ} 0 1 = cc in absurd (omega arith)
early {q = q} (asks_refused {q = m} h) e = let i : m ≡ q = cc in rw i at h

-- A sheet that does not read fails one of questions 1 to 6.
pub sheet_question_in : (d : Dialect) (s charter : List ℕ) {q p : ℕ} → sheet_of_in d s charter ≡ refused q p → Early q
sheet_question_in d s charter e = early (asks_sheet_of d s charter) e

pub sheet_question : (s charter : List ℕ) {q p : ℕ} → sheet_of s charter ≡ refused q p → Early q
sheet_question s charter e = sheet_question_in current s charter e
