-- What passes: a question that was answered "yes", and the questions after it; so what questions 1 to 18 answered "passed" say of a sheet
-- and its policy.
use Prim.Native.Nat.{ℕ}
use mathlib.Core.Path.{◌≡◌, refl, sym, ◌∙◌}
use mathlib.Core.List.{List}
use mathlib.Core.Bool.{Bool, true, false}
use native.Mathlib.Omega.{arith}
use lib.Dec.{eqb}
use Rattle.reading.proofs.FormLaws.{both_true}
use Rattle.reading.specs.Read.{Read, got, refused}
use Rattle.reading.specs.System.{sheet_of}
use Rattle.inference.specs.Acts.{Act, sheet_acts}
use Rattle.inference.specs.Interface.{Required, required_of}
use Rattle.inference.specs.Lists.{every}
use Rattle.inference.specs.Typing.{in_scope, on_channel, carries_object, in_path}
use Rattle.policy.specs.Reading.{read_policy}
use Rattle.policy.specs.Syntax.{Tree}
use Rattle.policy.specs.WellFormed.{kinds_distinct, none_above, same_heads, nodes_fault, fenced}
use Rattle.fit.specs.Satisfies.{has_tree, path_reached, covered}
use Rattle.wellformed.proofs.OrderLaws.{nodes_pass}
use Rattle.service.specs.Questions.{Asked, passed, ask, after_reading, typed, well_formed, satisfied, Accepted, judged_from, judged}

-- A "yes" leaves the question answered and the questions after it.
pub ask_yes : {A : Type 0} (n : ℕ) (b : Bool) (rest : Asked A) (a : A) → ask n b rest ≡ passed a → b ≡ true
unfolding ask
ask_yes n true rest a h = refl
ask_yes n false rest a h = let z : ◌≡◌ {A = ℕ} 0 1 = cc in absurd (omega arith)

pub ask_rest : {A : Type 0} (n : ℕ) (b : Bool) (rest : Asked A) (a : A) → ask n b rest ≡ passed a → rest ≡ passed a
unfolding ask
ask_rest n true rest a h = h
ask_rest n false rest a h = let z : ◌≡◌ {A = ℕ} 0 1 = cc in absurd (omega arith)

-- 7 to 10.
pub record Typed (all : List Act) : Type 0 where
  pub scopes : every in_scope all ≡ true
  pub channels : every on_channel all ≡ true
  pub carries : every carries_object all ≡ true
  pub paths : every in_path all ≡ true

pub typed_yes : {A : Type 0} (all : List Act) (rest : Asked A) (a : A) → typed all rest ≡ passed a → Typed all
unfolding typed
typed_yes all rest a h =
    let r₈ : ask 8 (every on_channel all) (ask 9 (every carries_object all) (ask 10 (every in_path all) rest)) ≡ passed a = ask_rest 7 (every in_scope all) _ a h in
    let r₉ : ask 9 (every carries_object all) (ask 10 (every in_path all) rest) ≡ passed a = ask_rest 8 (every on_channel all) _ a r₈ in
    let r₁₀ : ask 10 (every in_path all) rest ≡ passed a = ask_rest 9 (every carries_object all) _ a r₉ in
    record {
      scopes = ask_yes 7 (every in_scope all) _ a h;
      channels = ask_yes 8 (every on_channel all) _ a r₈;
      carries = ask_yes 9 (every carries_object all) _ a r₉;
      paths = ask_yes 10 (every in_path all) _ a r₁₀;
    }

pub typed_rest : {A : Type 0} (all : List Act) (rest : Asked A) (a : A) → typed all rest ≡ passed a → rest ≡ passed a
unfolding typed
typed_rest all rest a h = ask_rest 10 (every in_path all) _ a (ask_rest 9 (every carries_object all) _ a (ask_rest 8 (every on_channel all) _ a (ask_rest 7 (every in_scope all) _ a h)))

pub typed_passes : {A : Type 0} (all : List Act) (rest : Asked A) → Typed all → typed all rest ≡ rest
unfolding typed ask
typed_passes all rest t = rw (t.scopes, t.channels, t.carries, t.paths)

-- 12 to 15.
pub formed_rest : {A : Type 0} (policy : List Tree) (rest : Asked A) (a : A) → well_formed policy rest ≡ passed a → rest ≡ passed a
unfolding well_formed
formed_rest policy rest a h =
    ask_rest 15 (fenced policy) _ a (ask_rest (nodes_fault policy) (eqb (nodes_fault policy) 0) _ a (ask_rest 12 (kinds_distinct policy) _ a h))

-- A policy that passes 12 to 15 passes each of them, put to the whole as document 01 has it; and one that passes each of them passes.
-- So what is accepted did not change when the nodes were taken one after another (document 02, Q-2).
pub record Formed (policy : List Tree) : Type 0 where
  pub kinds : kinds_distinct policy ≡ true
  pub above : none_above policy ≡ true
  pub heads : same_heads policy ≡ true
  pub fences : fenced policy ≡ true

pub formed_yes : {A : Type 0} (policy : List Tree) (rest : Asked A) (a : A) → well_formed policy rest ≡ passed a → Formed policy
unfolding well_formed
formed_yes policy rest a h =
    let i : ask (nodes_fault policy) (eqb (nodes_fault policy) 0) (ask 15 (fenced policy) rest) ≡ passed a = ask_rest 12 (kinds_distinct policy) _ a h in
    let j : eqb (nodes_fault policy) 0 ≡ true = ask_yes (nodes_fault policy) (eqb (nodes_fault policy) 0) _ a i in
    let k = both_true (none_above policy) (same_heads policy) (sym (nodes_pass policy) ∙ j) in
    record {
      kinds = ask_yes 12 (kinds_distinct policy) _ a h;
      above = k.0;
      heads = k.1;
      fences = ask_yes 15 (fenced policy) _ a (ask_rest (nodes_fault policy) (eqb (nodes_fault policy) 0) _ a i);
    }

pub formed_passes : {A : Type 0} (policy : List Tree) (rest : Asked A) → Formed policy → well_formed policy rest ≡ rest
unfolding well_formed ask
formed_passes policy rest f = rw (f.kinds, nodes_pass policy, f.above, f.heads, f.fences)

-- 16 to 18.
pub record Satisfied (policy : List Tree) (required : Required) : Type 0 where
  pub trees : every (has_tree policy) required.entries ≡ true
  pub paths : every (path_reached policy) required.entries ≡ true
  pub covers : every (covered policy required) required.entries ≡ true

module _ {A : Type 0} (policy : List Tree) (required : Required) (rest : Asked A) (a : A) (h : satisfied policy required rest ≡ passed a) where
  after_trees : ask 17 (every (path_reached policy) required.entries) (ask 18 (every (covered policy required) required.entries) rest) ≡ passed a
  unfolding satisfied
  after_trees = ask_rest 16 (every (has_tree policy) required.entries) _ a h

  after_paths : ask 18 (every (covered policy required) required.entries) rest ≡ passed a
  after_paths = ask_rest 17 (every (path_reached policy) required.entries) _ a after_trees

  pub satisfied_yes : Satisfied policy required
  unfolding satisfied
  satisfied_yes = record {
    trees = ask_yes 16 (every (has_tree policy) required.entries) _ a h;
    paths = ask_yes 17 (every (path_reached policy) required.entries) _ a after_trees;
    covers = ask_yes 18 (every (covered policy required) required.entries) _ a after_paths;
  }

  pub satisfied_rest : rest ≡ passed a
  satisfied_rest = ask_rest 18 (every (covered policy required) required.entries) _ a after_paths

pub satisfied_passes : {A : Type 0} (policy : List Tree) (required : Required) (rest : Asked A) → Satisfied policy required → satisfied policy required rest ≡ rest
unfolding satisfied ask
satisfied_passes policy required rest s = rw (s.trees, s.paths, s.covers)

-- A reading that did not fail.
on_reading : {A B : Type 0} (R : Type 0) (r : Read A) (f : A → Asked B) (b : B) → after_reading r f ≡ passed b
    → ((x : A) (next : ℕ) → r ≡ got x next → f x ≡ passed b → R) → R
unfolding after_reading
on_reading R (got x next) f b h go = go x next refl h
on_reading R (refused q at) f b h go = let z : ◌≡◌ {A = ℕ} 0 1 = cc in absurd (omega arith)

-- All of what is accepted: its sheet was read, up to a place, and each question was answered "yes".
pub record Passed (s c : List ℕ) (a : Accepted) : Type 0 where
  pub place : ℕ
  pub reads : sheet_of s c ≡ got a.sheet place
  pub acts : Typed (sheet_acts a.sheet)
  pub formed : Formed a.policy
  pub satisfies : Satisfied a.policy (required_of a.sheet)

passed_as : (s c : List ℕ) (a b : Accepted) → passed a ≡ passed b → Passed s c a → Passed s c b
passed_as s c a b e p = let z : a ≡ b = cc in rw z at p

pub judged_passed : (s c : List ℕ) (a : Accepted) → judged s c ≡ passed a → Passed s c a
unfolding judged judged_from
judged_passed s c a h =
    on_reading (Passed s c a) _ _ a h (λ sheet end e k.
    let t : Typed (sheet_acts sheet) = typed_yes (sheet_acts sheet) _ a k in
    on_reading (Passed s c a) _ _ a (typed_rest (sheet_acts sheet) _ a k) (λ policy next f l.
    let m : satisfied policy (required_of sheet) (passed (record { sheet = sheet; policy = policy })) ≡ passed a = formed_rest policy _ a l in
    passed_as s c (record { sheet = sheet; policy = policy }) a (satisfied_rest policy (required_of sheet) _ a m)
    (record {
      place = end;
      reads = e;
      acts = t;
      formed = formed_yes policy _ a l;
      satisfies = satisfied_yes policy (required_of sheet) _ a m;
    })))

-- Its charter was read, up to a place.
pub record PolicyRead (c : List ℕ) (a : Accepted) : Type 0 where
  pub place : ℕ
  pub reads : read_policy c ≡ got a.policy place

pub passed_policy : (s c : List ℕ) (a : Accepted) → judged s c ≡ passed a → PolicyRead c a
unfolding judged judged_from
passed_policy s c a h =
    on_reading (PolicyRead c a) _ _ a h (λ sheet end e k.
    on_reading (PolicyRead c a) _ _ a (typed_rest (sheet_acts sheet) _ a k) (λ policy next f l.
    let m : passed (record { sheet = sheet; policy = policy }) ≡ passed a = satisfied_rest policy (required_of sheet) _ a (formed_rest policy _ a l) in
    let z : policy ≡ a.policy = cc in
    record { place = next; reads = rw z at f }))

-- The same questions answered "yes" pass.
pub passes_judged : (s c : List ℕ) (a : Accepted) (end : ℕ) → Passed s c a → judged_from (sheet_of s c) (got a.policy end) ≡ passed a
unfolding judged_from after_reading
passes_judged s c a end p =
    rw p.reads
    (typed_passes (sheet_acts a.sheet) _ p.acts ∙ formed_passes a.policy _ p.formed
    ∙ satisfied_passes a.policy (required_of a.sheet) (passed a) p.satisfies)
