-- The covering of an entry of a table, found by its flags and then by the groups of its component, place by place; the entry is covered
-- where it lacks nothing. And the first question that any entry fails is the least of those of the entries.
use Prim.Native.Nat.{ℕ, zero, suc, ◌+◌, ◌-◌, ◌*◌, ◌/◌, ◌%◌, ◌<◌, ◌≤◌, min}
use Rattle.std.specs.Prelude.{Option as Answer, Some, None}
use Rattle.policy.specs.declared.Span.{Span}
use mathlib.Core.Path.{◌≡◌, refl, sym, ap, ap₂, ◌∙◌}
use mathlib.Core.List.{List, [], ◌∷◌, ◌++◌, map}
use mathlib.Core.Bool.{Bool, true, false, cond, not, ◌&&◌}
use mathlib.Core.Option.{Option, some, none}
use native.Mathlib.Omega.{arith}
use lib.ListN.{length, take, get_or, replicate, length-replicate}
use native.Mathlib.Decide.{ℕ_discrete}
use lib.Dec.{ltb, eqb}
use borrow.Author.Rules.{rules}
use borrow.Author.Tests.{lt-ltb, le-ltb, ltb-true, ltb-false, eq-eqb, ne_eqb, not-true, not-false}
use Rattle.reading.proofs.TotalLaws.{both_left, both_right}
use Rattle.inference.specs.Lists.{every, only, gather, rising}
use Rattle.inference.specs.Counts.{Count, is_zero}
use Rattle.inference.specs.Interface.{Disclosure, Entry, Permission, reading, writing, accessing, disclosing, flagged, permissions, holds_any, map_of, Required}
use Rattle.inference.specs.Rows.{
  Orderly,
  is_set,
  cell,
  count_of,
  group_count,
  group_at,
  path_at,
  purpose_at,
  disclosures_at,
  entry_at,
  used_kinds,
  row_entries,
  table_entries,
  table_required,
}
use Rattle.interface.proofs.InterfaceLaws.{set_count, map_none, map_some}
use Rattle.interface.proofs.StoreLaws.{clear_zeros}
use Rattle.interface.proofs.TableLaws.{Clear}
use Rattle.interface.proofs.WriteLaws.{rising_next, rising_done}
use Rattle.sharing.specs.Sums.{add_rows, any_shared, Summed}
use Rattle.sharing.proofs.SharingLaws.{class_sums, lone_sums}
use Rattle.policy.specs.Syntax.{Tree}
use Rattle.fit.specs.Satisfies.{path_reached, Verdict, flag, counts, verdict_of, covering, holds, grants_one, covered}
use Rattle.policy.specs.declared.Trees.{Trees}
use Rattle.policy.specs.Loads.{AllHeld, Bounded, start_of}
use Rattle.fit.specs.Givers.{granting_rows, joined_at, givers_in, index_of}
use Rattle.fit.specs.Uncovered.{first, permission_of, or_none, first_missing}
use Rattle.reading.specs.Told.{numbered, failed_below}
use Rattle.reading.specs.declared.Question.{Question}
use Rattle.reading.specs.declared.Question.TheVariants as question
pub use Rattle.fit.proofs.EntrySteps.{is_none}
use Rattle.fit.proofs.EntrySteps.{every_first, failed_past}
use Rattle.fit.specs.Covers.{verdicts_for, all_given, flag_given, flag_at, flags_at, place_verdict, places_from, verdicts_at, lacking_in, rows_fault, tree_rows_of}
use Rattle.fit.specs.Search.{Gives}
use Rattle.fit.specs.Faults.{entry_fault, entries_fault}
use Rattle.fit.proofs.GrantLaws.{every_map}
use Rattle.fit.proofs.GrantTrees.{TreeRows, tree_gives, span_gives, entry_tree, tree_rows, entry_reached, on_reading, on_writing, on_accessing, on_disclosing}

-- What an entry lacks is the first permission that is not granted, so it is covered where it lacks nothing.
pub covered_first : (policy : List Tree) (required : Required) (e : Entry) → covered policy required e ≡ is_none (first_missing policy required e)
unfolding covered first_missing lacking_in
covered_first policy required e = every_first (covering policy required e)

-- Question 18 of an entry, permission by permission.
pub covered_each : (policy : List Tree) (required : Required) (e : Entry) → covered policy required e ≡ every (grants_one policy required e) (permissions e)
unfolding covered covering grants_one
covered_each policy required e = every_map (verdict_of policy required e) holds (grants_one policy required e) (λ p. refl) (permissions e)

-- So is what it lacks.
verdict_on : (policy : List Tree) (required : Required) (e : Entry) (p : Permission) → permission_of (verdict_of policy required e p) ≡ p
unfolding permission_of verdict_of
verdict_on policy required e reading = refl
verdict_on policy required e writing = refl
verdict_on policy required e accessing = refl
verdict_on policy required e (disclosing h) = refl

pub missing_first : (policy : List Tree) (required : Required) (e : Entry)
    → first_missing policy required e ≡ first (λ p. not (grants_one policy required e p)) (permissions e)
unfolding first_missing covering first or_none grants_one
missing_first policy required e = go (permissions e)
  where
    go : (ps : List Permission) → or_none (first (λ v. not (holds v)) (map (verdict_of policy required e) ps)) ≡ first (λ p. not (grants_one policy required e p)) ps
    go [] = refl
    go (p ∷ ps) = here (not (holds (verdict_of policy required e p))) (go ps)
      where
        here : (b : Bool) → or_none (first (λ v. not (holds v)) (map (verdict_of policy required e) ps)) ≡ first (λ q. not (grants_one policy required e q)) ps
            → or_none (cond b (some (verdict_of policy required e p)) (first (λ v. not (holds v)) (map (verdict_of policy required e) ps)))
            ≡ cond b (some p) (first (λ q. not (grants_one policy required e q)) ps)
        here true later = unfold or_none in ap some (verdict_on policy required e p)
        here false later = later

-- the verdicts on a list that begins with a flag
map_flagged : (f : Permission → Verdict) (b : Bool) (p : Permission) (rest : List Permission) → map f (flagged b p ++ rest) ≡ cond b (f p ∷ []) [] ++ map f rest
unfolding flagged
map_flagged f true p rest = refl
map_flagged f false p rest = refl

module _ (policy : List Tree) (required : Required) (table : List ℕ) (n k : ℕ) where
  item : ℕ → Disclosure
  item i = record { group = group_at table n i; count = count_of (cell table n k i) }

  verdict : Permission → Verdict
  verdict p = verdict_of policy required (entry_at table n k) p

  -- the verdicts on the groups that are disclosed to among those at some places
  groups_of : List ℕ → List Verdict
  groups_of places = map verdict (map (λ d. disclosing d.group) (only (λ d. not (is_zero d.count)) (map item places)))

  covering_parts : covering policy required (entry_at table n k)
      ≡ cond (is_set (cell table n k 8)) (verdict reading ∷ []) []
      ++ (cond (is_set (cell table n k 9)) (verdict writing ∷ []) []
      ++ (cond (is_set (cell table n k 10)) (verdict accessing ∷ []) [] ++ groups_of (rising 0 (group_count table n))))
  unfolding covering permissions entry_at verdict groups_of disclosures_at item
  covering_parts =
      map_flagged verdict (is_set (cell table n k 8)) reading _
      ∙ ap (λ (vs : List Verdict). cond (is_set (cell table n k 8)) (verdict reading ∷ []) [] ++ vs)
      (map_flagged verdict (is_set (cell table n k 9)) writing _
      ∙ ap (λ (vs : List Verdict). cond (is_set (cell table n k 9)) (verdict writing ∷ []) [] ++ vs)
      (map_flagged verdict (is_set (cell table n k 10)) accessing _))

  module _ (c nodes rows : List ℕ) (gives : Gives c nodes policy k (path_at table n) (purpose_at table n) rows) (up : Orderly table n)
      (sums : List ℕ) (sum : Summed table sums required n k) where
    -- the verdict on a group, by the sums and the rows
    group_rows : (i : ℕ) → i < group_count table n → verdict (disclosing (group_at table n i)) ≡ place_verdict c nodes rows table sums n k i
    unfolding verdict place_verdict
    group_rows i l =
        on_disclosing gives required (entry_at table n k) (unfold entry_at in refl) (unfold entry_at in refl) (unfold entry_at in refl) (group_at table n i)
        ∙ ap (λ (x : Count). counts (group_at table n i) x (joined_at (group_at table n i) c nodes rows)) (sum.holds i l)

    groups_rows : (from m : ℕ) → from + m ≤ group_count table n → groups_of (rising from m) ≡ places_from from m c nodes rows table sums n k
    unfolding rising groups_of places_from only item
    groups_rows from zero l = refl
    groups_rows from (suc m) l =
        go (is_set (cell table n k from)) (set_count (cell table n k from)) (group_rows from (omega arith)) (groups_rows (suc from) m (omega arith))
      where
        later : List Disclosure
        later = only (λ d. not (is_zero d.count)) (map item (rising (suc from) m))

        left : List ℕ
        left = only (λ i. is_set (cell table n k i)) (rising (suc from) m)

        go : (b : Bool) → not (is_zero (count_of (cell table n k from))) ≡ b → verdict (disclosing (group_at table n from)) ≡ place_verdict c nodes rows table sums n k from
            → map verdict (map (λ d. disclosing d.group) later) ≡ map (place_verdict c nodes rows table sums n k) left
            → map verdict (map (λ d. disclosing d.group) (cond (not (is_zero (count_of (cell table n k from)))) (item from ∷ later) later))
            ≡ map (place_verdict c nodes rows table sums n k) (cond b (from ∷ left) left)
        go false e f rest = rw e rest
        go true e f rest = rw e (ap₂ (λ (v : Verdict) (vs : List Verdict). v ∷ vs) f rest)

    -- the covering of an entry, found in the rows that give to its path
    pub covering_rows : covering policy required (entry_at table n k) ≡ verdicts_at c nodes rows table sums n k
    unfolding verdicts_at flags_at flag_at flag_given verdict
    covering_rows =
        covering_parts
        ∙ rw (
          on_reading gives required (entry_at table n k) (unfold entry_at in refl) (unfold entry_at in refl) (unfold entry_at in refl),
          on_writing gives required (entry_at table n k) (unfold entry_at in refl) (unfold entry_at in refl) (unfold entry_at in refl),
          on_accessing gives required (entry_at table n k) (unfold entry_at in refl) (unfold entry_at in refl) (unfold entry_at in refl),
          groups_rows 0 (group_count table n) (omega arith),
        ) refl

  module _ (c nodes : List ℕ) (start end : ℕ) (tree : TreeRows c nodes policy k start end)
      (rows : List ℕ) (given : rows ≡ givers_in c nodes (path_at table n) start (end - start)) (up : Orderly table n)
      (sums : List ℕ) (sum : Summed table sums required n k) where
    pub fault_rows : cond (path_reached policy (entry_at table n k)) (cond (covered policy required (entry_at table n k)) 19 18) 17 ≡ rows_fault c nodes rows table sums n k
    unfolding rows_fault all_given covered
    fault_rows =
        ap₂ (λ (a b : Bool). cond a (cond b 19 18) 17)
        (entry_reached c nodes policy k start end tree (path_at table n) rows given (entry_at table n k) (unfold entry_at in refl) (unfold entry_at in refl))
        (ap (every holds) (covering_rows c nodes (granting_rows (purpose_at table n) nodes rows)
        (tree_gives c nodes policy k start end tree (path_at table n) rows given (purpose_at table n)) up sums sum))

-- The verdicts that the tree of the kind gives are the covering.
pub verdicts_for_lem : (c nodes : List ℕ) (trees : Trees) (policy : List Tree) → AllHeld c nodes trees 0 policy → trees.len ≤ 16 → length trees.kinds ≡ 16
    → (table sums : List ℕ) (n k : ℕ) → Orderly table n → (required : Required) → Summed table sums required n k
    → verdicts_for c nodes trees table sums n k ≡ covering policy required (entry_at table n k)
unfolding verdicts_for
verdicts_for_lem c nodes trees policy held few kinds table sums n k up required sum =
    sym (covering_rows policy required table n k c nodes _ (span_gives c nodes trees policy held few kinds k (path_at table n) _ refl (purpose_at table n)) up sums sum)

-- What the rows of a kind's tree say, and that there are none.
record RowsOf (trees : Trees) (kind : ℕ) (s : Span) : Type 0 where
  here : index_of kind (take trees.len trees.kinds) < trees.len
  starts : s.from ≡ start_of trees (index_of kind (take trees.len trees.kinds))
  ends : s.to ≡ get_or trees.ends (index_of kind (take trees.len trees.kinds)) 0

rows_some : (trees : Trees) (kind : ℕ) (s : Span) → Some s ≡ tree_rows_of trees kind → RowsOf trees kind s
unfolding tree_rows_of
rows_some trees kind s e = go (ltb (index_of kind (take trees.len trees.kinds)) trees.len) refl e
  where
    go : (b : Bool) → ltb (index_of kind (take trees.len trees.kinds)) trees.len ≡ b
        → Some s ≡ cond b (Some (record { from = start_of trees (index_of kind (take trees.len trees.kinds)); to = get_or trees.ends (index_of kind (take trees.len trees.kinds)) 0 })) None
        → RowsOf trees kind s
    go true h f = record { here = ltb-true _ _ h; starts = cc; ends = cc }
    go false h f = cc

rows_none : (trees : Trees) (kind : ℕ) → None ≡ tree_rows_of trees kind → trees.len ≤ index_of kind (take trees.len trees.kinds)
unfolding tree_rows_of
rows_none trees kind e = go (ltb (index_of kind (take trees.len trees.kinds)) trees.len) refl e
  where
    go : (b : Bool) → ltb (index_of kind (take trees.len trees.kinds)) trees.len ≡ b
        → ◌≡◌ {A = Answer Span} None (cond b (Some (record { from = start_of trees (index_of kind (take trees.len trees.kinds)); to = get_or trees.ends (index_of kind (take trees.len trees.kinds)) 0 })) None)
        → trees.len ≤ index_of kind (take trees.len trees.kinds)
    go true h f = cc
    go false h f = ltb-false _ _ h

-- The first question that an entry fails; a kind that is not marked has no entry.
abbrev pub kind_fault : List Tree → Required → List ℕ → ℕ → ℕ → ℕ
kind_fault policy required table n k = cond (is_set (cell table n k 11)) (entry_fault policy required (entry_at table n k)) 19

no_fault : (policy : List Tree) (required : Required) (e : Entry) → holds_any e ≡ false → 19 ≡ entry_fault policy required e
unfolding entry_fault
no_fault policy required e h = rw h refl

-- An entry of a component and a kind: the kind is marked, and there is a permission.
abbrev pub is_entry : List ℕ → ℕ → ℕ → Bool
is_entry table n k = is_set (cell table n k 11) && holds_any (entry_at table n k)

module _ (table : List ℕ) (n k : ℕ) (u : Bool) (is : u ≡ is_set (cell table n k 11)) where
  pub unmarked : not u ≡ true → false ≡ is_entry table n k
  unmarked h = rw (← is, not-true u h) refl

  pub marked : not u ≡ false → (m : ℕ) → m ≡ map_of (entry_at table n k) → not (eqb m 0) ≡ is_entry table n k
  marked h m map = rw (← is, not-false u h) (go (ℕ_discrete m 0))
    where
      go : Dec (m ≡ 0) → not (eqb m 0) ≡ holds_any (entry_at table n k)
      go (yes e) = rw (eq-eqb m 0 e) (sym (map_none (entry_at table n k) (sym map ∙ e)))
      go (no f) = rw (ne_eqb m 0 f) (sym (map_some (entry_at table n k) (λ e. f (map ∙ e))))

module _ (c nodes : List ℕ) (trees : Trees) (table sums : List ℕ) (n k : ℕ) (u : Bool) (is : u ≡ is_entry table n k) where
  none_failed : not u ≡ true → (policy : List Tree) (required : Required) → 19 ≡ kind_fault policy required table n k
  none_failed h policy required = go (is_set (cell table n k 11)) (holds_any (entry_at table n k)) refl (sym is ∙ not-true u h)
    where
      go : (a b : Bool) → holds_any (entry_at table n k) ≡ b → (a && b) ≡ false → 19 ≡ cond a (entry_fault policy required (entry_at table n k)) 19
      go true true e f = let z : ◌≡◌ {A = ℕ} 0 1 = cc in absurd (omega arith)
      go true false e f = no_fault policy required (entry_at table n k) e
      go false b e f = refl

  pub no_entry : not u ≡ true → (policy : List Tree) → AllHeld c nodes trees 0 policy → Orderly table n → (required : Required) → Summed table sums required n k
      → numbered None ≡ failed_below 19 (kind_fault policy required table n k)
  unfolding failed_below
  no_entry h policy held up required sum = rw (← none_failed h policy required) refl

  module _ (entry : not u ≡ false) where
    both : is_entry table n k ≡ true
    both = sym is ∙ not-false u entry

    marks : is_set (cell table n k 11) ≡ true
    marks = both_left (is_set (cell table n k 11)) (holds_any (entry_at table n k)) both

    permits : holds_any (entry_at table n k) ≡ true
    permits = both_right (is_set (cell table n k 11)) (holds_any (entry_at table n k)) both

    -- by the tree of the kind
    module _ (bounded : Bounded trees) (kinds : length trees.kinds ≡ 16) where
      pub no_tree : None ≡ tree_rows_of trees k → (policy : List Tree) → AllHeld c nodes trees 0 policy → Orderly table n
          → (required : Required) → Summed table sums required n k → numbered (Some question.Tree) ≡ failed_below 19 (kind_fault policy required table n k)
      unfolding entry_fault failed_below
      no_tree e policy held up required sum =
          rw (
            marks,
            permits,
            entry_tree c nodes trees policy held bounded.few kinds k (index_of k (take trees.len trees.kinds)) refl (entry_at table n k) (unfold entry_at in refl),
            le-ltb (index_of k (take trees.len trees.kinds)) trees.len (rows_none trees k e),
          ) refl

      pub in_tree : (s : Span) → Some s ≡ tree_rows_of trees k → (r : Answer Question)
          → numbered r ≡ failed_below 19 (rows_fault c nodes (givers_in c nodes (path_at table n) s.from (s.to - s.from)) table sums n k)
          → (policy : List Tree) → AllHeld c nodes trees 0 policy → Orderly table n → (required : Required) → Summed table sums required n k → numbered r ≡ failed_below 19 (kind_fault policy required table n k)
      unfolding entry_fault
      in_tree s found r e policy held up required sum =
          let is : RowsOf trees k s = rows_some trees k s found in
          rw (
            marks,
            permits,
            entry_tree c nodes trees policy held bounded.few kinds k (index_of k (take trees.len trees.kinds)) refl (entry_at table n k) (unfold entry_at in refl),
            lt-ltb (index_of k (take trees.len trees.kinds)) trees.len is.here,
          )
          (e ∙ ap (failed_below 19) (sym (fault_rows policy required table n k c nodes s.from s.to
          (tree_rows c nodes trees policy held bounded.few kinds k (index_of k (take trees.len trees.kinds)) refl is.here s.from s.to is.starts is.ends)
          (givers_in c nodes (path_at table n) s.from (s.to - s.from)) refl up sums sum)))

-- The least of what entries fail.
faults_most : (policy : List Tree) (required : Required) (es : List Entry) → entries_fault policy required es ≤ 19
unfolding entries_fault
faults_most policy required [] = omega arith
faults_most policy required (e ∷ rest) = omega (arith, faults_most policy required rest)

faults_append : (policy : List Tree) (required : Required) (xs ys : List Entry) → entries_fault policy required (xs ++ ys) ≡ min (entries_fault policy required xs) (entries_fault policy required ys)
unfolding entries_fault
faults_append policy required [] ys = omega (arith, faults_most policy required ys)
faults_append policy required (x ∷ xs) ys = omega (arith, faults_append policy required xs ys)

faults_only : (policy : List Tree) (required : Required) (es : List Entry) → entries_fault policy required (only holds_any es) ≡ entries_fault policy required es
unfolding entries_fault only
faults_only policy required [] = refl
faults_only policy required (e ∷ rest) = go (holds_any e) refl (faults_only policy required rest)
  where
    go : (b : Bool) → holds_any e ≡ b → entries_fault policy required (only holds_any rest) ≡ entries_fault policy required rest
        → entries_fault policy required (cond b (e ∷ only holds_any rest) (only holds_any rest)) ≡ min (entry_fault policy required e) (entries_fault policy required rest)
    go true h i = unfold entries_fault in ap (min (entry_fault policy required e)) i
    go false h i = omega (arith, i, no_fault policy required e h, faults_most policy required rest)

-- What is left of a loop over kinds, of which those that are marked count, and over components.
abbrev pub kinds_fault : List Tree → Required → List ℕ → ℕ → ℕ → ℕ → ℕ
kinds_fault policy required table n start m = entries_fault policy required (map (entry_at table n) (only (λ k. is_set (cell table n k 11)) (rising start m)))

abbrev pub rows_from : List Tree → Required → List ℕ → ℕ → ℕ → ℕ
rows_from policy required table start m = entries_fault policy required (gather (row_entries table) (rising start m))

row_all : (policy : List Tree) (required : Required) (table : List ℕ) (n : ℕ) → entries_fault policy required (row_entries table n) ≡ kinds_fault policy required table n 0 16
unfolding row_entries used_kinds
row_all policy required table n = faults_only policy required (map (entry_at table n) (used_kinds table n))

kind_first : (policy : List Tree) (required : Required) (table : List ℕ) (n kind : ℕ) → kind < 16
    → kinds_fault policy required table n kind (16 - kind) ≡ min (kind_fault policy required table n kind) (kinds_fault policy required table n (kind + 1) (16 - (kind + 1)))
unfolding only
kind_first policy required table n kind here =
    ap (λ (l : List ℕ). entries_fault policy required (map (entry_at table n) (only (λ k. is_set (cell table n k 11)) l))) (rising_next kind 16 here)
    ∙ go (is_set (cell table n kind 11)) (only (λ k. is_set (cell table n k 11)) (rising (kind + 1) (16 - (kind + 1))))
  where
    go : (b : Bool) (rest : List ℕ) → entries_fault policy required (map (entry_at table n) (cond b (kind ∷ rest) rest))
        ≡ min (cond b (entry_fault policy required (entry_at table n kind)) 19) (entries_fault policy required (map (entry_at table n) rest))
    go true rest = unfold entries_fault in refl
    go false rest = omega (arith, faults_most policy required (map (entry_at table n) rest))

row_first : (policy : List Tree) (required : Required) (table : List ℕ) (i m : ℕ) → i < m
    → rows_from policy required table i (m - i) ≡ min (entries_fault policy required (row_entries table i)) (rows_from policy required table (i + 1) (m - (i + 1)))
unfolding gather
row_first policy required table i m here =
    ap (λ (l : List ℕ). entries_fault policy required (gather (row_entries table) l)) (rising_next i m here)
    ∙ faults_append policy required (row_entries table i) (gather (row_entries table) (rising (i + 1) (m - (i + 1))))

-- What was found among what is done, with what is left, gives the whole.
pub record Found (first : Answer Question) (left all : ℕ) : Type 0 where
  pub number : ℕ
  pub told : numbered first ≡ failed_below 19 number
  pub whole : min number left ≡ all

found_start : (all : ℕ) → all ≤ 19 → Found None all all
unfolding failed_below
found_start all h = record { number = 19; told = refl; whole = omega arith }

found_next : (first fault next : Answer Question) (one left rest all : ℕ) → Found first left all → left ≡ min one rest → numbered fault ≡ failed_below 19 one
    → ((bound n m : ℕ) → numbered first ≡ failed_below bound n → numbered fault ≡ failed_below bound m → numbered next ≡ failed_below bound (min n m)) → Found next rest all
found_next first fault next one left rest all so e f g = record {
  number = min so.number one;
  told = g 19 so.number one so.told f;
  whole = omega (arith, so.whole);
}

found_end : (first : Answer Question) (all : ℕ) → Found first 19 all → numbered first ≡ failed_below 19 all
found_end first all so = so.told ∙ sym (failed_past 19 so.number 19 (omega arith)) ∙ ap (failed_below 19) so.whole

-- The kinds done so far and those left give the whole.
pub record KindsSoFar (c nodes : List ℕ) (trees : Trees) (table sums : List ℕ) (n : ℕ) (first : Answer Question) (kind : ℕ) : Type 0 where
  pub within : kind ≤ 16
  pub found : (policy : List Tree) → AllHeld c nodes trees 0 policy → Orderly table n → (required : Required) → ((k : ℕ) → k < 16 → Summed table sums required n k)
      → Found first (kinds_fault policy required table n kind (16 - kind)) (kinds_fault policy required table n 0 16)

pub kinds_start : (c nodes : List ℕ) (trees : Trees) (table sums : List ℕ) (n : ℕ) → KindsSoFar c nodes trees table sums n None 0
kinds_start c nodes trees table sums n = record {
  within = omega arith;
  found = λ policy held up required sum. found_start _ (faults_most policy required (map (entry_at table n) (only (λ k. is_set (cell table n k 11)) (rising 0 16))));
}

module _ (c nodes : List ℕ) (trees : Trees) (table sums : List ℕ) (n : ℕ) (first : Answer Question) (kind : ℕ) (so : KindsSoFar c nodes trees table sums n first kind) where
  pub kinds_next : kind < 16 → (fault next : Answer Question)
      → ((policy : List Tree) → AllHeld c nodes trees 0 policy → Orderly table n → (required : Required) → Summed table sums required n kind
      → numbered fault ≡ failed_below 19 (kind_fault policy required table n kind))
      → ((bound n m : ℕ) → numbered first ≡ failed_below bound n → numbered fault ≡ failed_below bound m → numbered next ≡ failed_below bound (min n m))
      → KindsSoFar c nodes trees table sums n next (kind + 1)
  kinds_next here fault next e f = record {
    within = omega arith;
    found = λ policy held up required sum. found_next first fault next _ _ _ _ (so.found policy held up required sum)
        (kind_first policy required table n kind here) (e policy held up required (sum kind here)) f;
  }

  pub kinds_end : 16 ≤ kind → (policy : List Tree) → AllHeld c nodes trees 0 policy → Orderly table n → (required : Required) → ((k : ℕ) → k < 16 → Summed table sums required n k)
      → numbered first ≡ failed_below 19 (entries_fault policy required (row_entries table n))
  unfolding entries_fault only
  kinds_end done policy held up required sum =
      let u : kinds_fault policy required table n kind (16 - kind) ≡ 19 =
      ap (λ (l : List ℕ). entries_fault policy required (map (entry_at table n) (only (λ k. is_set (cell table n k 11)) l))) (rising_done kind 16 done) in
      rw (row_all policy required table n) (found_end first _ (rw u at (so.found policy held up required sum)))

-- The same of components.
pub record RowsSoFar (c nodes : List ℕ) (trees : Trees) (table sums : List ℕ) (m : ℕ) (first : Answer Question) (i : ℕ) : Type 0 where
  pub within : i ≤ m
  pub found : (policy : List Tree) → AllHeld c nodes trees 0 policy → ((n : ℕ) → n < m → Orderly table n)
      → (required : Required) → ((n k : ℕ) → n < m → k < 16 → Summed table sums required n k)
      → Found first (rows_from policy required table i (m - i)) (rows_from policy required table 0 m)

pub rows_start : (c nodes : List ℕ) (trees : Trees) (table sums : List ℕ) (m : ℕ) → RowsSoFar c nodes trees table sums m None 0
rows_start c nodes trees table sums m =
    let z : m - 0 ≡ m = omega arith in
    record {
      within = omega arith;
      found = λ policy held up required sum. rw z (found_start _ (faults_most policy required (gather (row_entries table) (rising 0 m))));
    }

module _ (c nodes : List ℕ) (trees : Trees) (table sums : List ℕ) (m : ℕ) (first : Answer Question) (i : ℕ) (so : RowsSoFar c nodes trees table sums m first i) where
  pub rows_next : i < m → (fault next : Answer Question)
      → ((policy : List Tree) → AllHeld c nodes trees 0 policy → Orderly table i → (required : Required) → ((k : ℕ) → k < 16 → Summed table sums required i k)
      → numbered fault ≡ failed_below 19 (entries_fault policy required (row_entries table i)))
      → ((bound n m : ℕ) → numbered first ≡ failed_below bound n → numbered fault ≡ failed_below bound m → numbered next ≡ failed_below bound (min n m))
      → RowsSoFar c nodes trees table sums m next (i + 1)
  rows_next here fault next e f = record {
    within = omega arith;
    found = λ policy held up required sum. found_next first fault next _ _ _ _ (so.found policy held up required sum)
        (row_first policy required table i m here) (e policy held (up i here) required (λ k l. sum i k here l)) f;
  }

  pub rows_end : m ≤ i → (policy : List Tree) → AllHeld c nodes trees 0 policy → ((n : ℕ) → n < m → Orderly table n)
      → (required : Required) → ((n k : ℕ) → n < m → k < 16 → Summed table sums required n k)
      → numbered first ≡ failed_below 19 (entries_fault policy required (table_entries table m))
  unfolding entries_fault gather table_entries
  rows_end done policy held up required sum =
      let u : rows_from policy required table i (m - i) ≡ 19 = ap (λ (l : List ℕ). entries_fault policy required (gather (row_entries table) l)) (rising_done i m done) in
      found_end first _ (rw u at (so.found policy held up required sum))

-- With the sums that were made in clear memory.
made_sums : (table sums : List ℕ) (components rows n : ℕ) → n ≡ rows * 129 → components ≤ rows → rows ≤ 32 → sums ≡ add_rows (replicate n 0) table 0 components
    → ((m : ℕ) → m < components → Orderly table m) → (m k : ℕ) → m < components → k < 16 → Summed table sums (table_required table components) m k
made_sums table sums components rows n e room few is up m k h l =
    rw is (class_sums table (replicate n 0) components rows room few (length-replicate {A = ℕ} n 0 ∙ e) (λ i. unfold Clear in clear_zeros n i (omega arith)) up m k h l)

pub few_sums : (table sums : List ℕ) (components : ℕ) → components ≤ 4 → sums ≡ add_rows (replicate 516 0) table 0 components
    → ((m : ℕ) → m < components → Orderly table m) → (m k : ℕ) → m < components → k < 16 → Summed table sums (table_required table components) m k
few_sums table sums components h is up m k = made_sums table sums components 4 516 refl h (omega arith) is up m k

pub all_sums : (table sums : List ℕ) (components : ℕ) → components ≤ 32 → sums ≡ add_rows (replicate 4128 0) table 0 components
    → ((m : ℕ) → m < components → Orderly table m) → (m k : ℕ) → m < components → k < 16 → Summed table sums (table_required table components) m k
all_sums table sums components h is up m k = made_sums table sums components 32 4128 refl h (omega arith) is up m k

-- With a row of sums for each component.
pub fit_shared : (c nodes : List ℕ) (trees : Trees) (table sums : List ℕ) (components size : ℕ) (r : Answer Question)
    → ((policy : List Tree) → AllHeld c nodes trees 0 policy → ((n : ℕ) → n < components → Orderly table n)
    → (required : Required) → ((n k : ℕ) → n < components → k < 16 → Summed table sums required n k)
    → numbered r ≡ failed_below 19 (entries_fault policy required (table_entries table components)))
    → components ≤ size / 129 → size / 129 ≤ 32 → size % 129 ≡ 0 → sums ≡ add_rows (replicate size 0) table 0 components
    → (policy : List Tree) → AllHeld c nodes trees 0 policy → ((n : ℕ) → n < components → Orderly table n)
    → numbered r ≡ failed_below 19 (entries_fault policy (table_required table components) (table_entries table components))
fit_shared c nodes trees table sums components size r told room few whole is policy held up =
    told policy held up (table_required table components) (made_sums table sums components (size / 129) size (omega arith) room few is up)

-- Without sums, where no components share.
pub fit_lone : (c nodes : List ℕ) (trees : Trees) (table : List ℕ) (components : ℕ) (r : Answer Question) (u : Bool) → u ≡ any_shared table 0 components → not u ≡ true → components ≤ 32
    → ((policy : List Tree) → AllHeld c nodes trees 0 policy → ((n : ℕ) → n < components → Orderly table n)
    → (required : Required) → ((n k : ℕ) → n < components → k < 16 → Summed table [] required n k)
    → numbered r ≡ failed_below 19 (entries_fault policy required (table_entries table components)))
    → (policy : List Tree) → AllHeld c nodes trees 0 policy → ((n : ℕ) → n < components → Orderly table n)
    → numbered r ≡ failed_below 19 (entries_fault policy (table_required table components) (table_entries table components))
fit_lone c nodes trees table components r u is off few told policy held up =
    told policy held up (table_required table components) (lone_sums table components few (sym is ∙ not-true u off) up)

pub ruleset fault_steps = (
  rules,
  unmarked,
  marked,
  no_entry,
  kinds_start,
  kinds_next,
  kinds_end,
  rows_start,
  rows_next,
  rows_end,
  fit_shared,
  fit_lone,
)
