-- The search for the first uncovered permission: what is left of the entries decides, since those passed lack nothing. And there is an
-- uncovered permission exactly where question 18 fails.
use Prim.Native.Nat.{ℕ, ◌+◌, ◌-◌, ◌<◌, ◌≤◌}
use mathlib.Core.Path.{◌≡◌, refl, ap, ap₂, ◌∙◌}
use mathlib.Core.List.{List, [], ◌∷◌, ◌++◌, map}
use mathlib.Core.Bool.{Bool, true, false, cond, not, ◌&&◌, ◌||◌, true≢false}
use mathlib.Core.Option.{Option, some, none}
use native.Mathlib.Omega.{arith}
use lib.ListN.{length, replicate}
use borrow.Author.Rules.{rules}
use borrow.Author.Tests.{lt-ltb, le-ltb, not-true, not-false}
use Rattle.inference.specs.Lists.{every, only, gather, rising}
use Rattle.inference.specs.Interface.{Disclosure, Entry, Permission, reading, writing, accessing, disclosing, is_empty, flagged, permissions, holds_any, Required}
use Rattle.inference.specs.Rows.{Orderly, is_set, cell, entry_at, used_kinds, row_entries, table_entries, table_required}
use Rattle.interface.proofs.WriteLaws.{rising_next, rising_done}
use Rattle.sharing.specs.Sums.{add_rows, Summed}
use Rattle.policy.specs.Syntax.{Tree}
use Rattle.policy.specs.Loads.{AllHeld, Bounded}
use Rattle.policy.specs.declared.Trees.{Trees}
use Rattle.fit.specs.Satisfies.{covering, covered}
use Rattle.fit.specs.Covers.{verdicts_of, lacking_in, told_in}
use Rattle.std.specs.Prelude.{Option as Answer, Some, None}
use Rattle.fit.specs.declared.Permission.{Permission as Told}
use Rattle.fit.specs.Uncovered.{first, or_none, first_missing, Uncovered, or_further, first_uncovered}
use Rattle.fit.specs.Search.{uncovered_at}
use Rattle.fit.specs.declared.Covering.{Covering}
use Rattle.fit.specs.declared.Missing.{Missing}
use Rattle.fit.proofs.EntrySteps.{is_none}
use Rattle.fit.proofs.EntryLaws.{covered_first, all_sums}

-- Question 18 of some entries fails exactly where one of them lacks a permission.
pub uncovered_none : (policy : List Tree) (required : Required) (es : List Entry)
    → every (covered policy required) es ≡ is_none (first_uncovered policy required es)
unfolding every first_uncovered
uncovered_none policy required [] = unfold is_none in refl
uncovered_none policy required (e ∷ rest) =
    ap₂ ◌&&◌ (covered_first policy required e) (uncovered_none policy required rest) ∙ go (first_missing policy required e)
  where
    go : (m : Option Permission) → (is_none m && is_none (first_uncovered policy required rest)) ≡ is_none (or_further e m (first_uncovered policy required rest))
    go none = unfold is_none or_further in refl
    go (some p) = unfold is_none or_further in refl

-- An entry without a permission lacks none.
no_permissions_lem : (a b d : Bool) (ds : List Disclosure) → ((a || b) || (d || not (is_empty ds))) ≡ false
    → flagged a reading ++ (flagged b writing ++ (flagged d accessing ++ map (λ x. disclosing x.group) ds)) ≡ []
unfolding flagged is_empty
no_permissions_lem true b d ds h = absurd (true≢false h)
no_permissions_lem false true d ds h = absurd (true≢false h)
no_permissions_lem false false true ds h = absurd (true≢false h)
no_permissions_lem false false false [] h = refl
no_permissions_lem false false false (x ∷ ds) h = absurd (true≢false h)

lacks_none : (policy : List Tree) (required : Required) (e : Entry) → holds_any e ≡ false → first_missing policy required e ≡ none
unfolding first_missing covering permissions holds_any first or_none
lacks_none policy required e h = rw (no_permissions_lem e.read e.write e.access e.disclose h) refl

uncovered_only : (policy : List Tree) (required : Required) (es : List Entry)
    → first_uncovered policy required (only holds_any es) ≡ first_uncovered policy required es
unfolding first_uncovered only
uncovered_only policy required [] = refl
uncovered_only policy required (e ∷ rest) = go (holds_any e) refl (uncovered_only policy required rest)
  where
    go : (b : Bool) → holds_any e ≡ b → first_uncovered policy required (only holds_any rest) ≡ first_uncovered policy required rest
        → first_uncovered policy required (cond b (e ∷ only holds_any rest) (only holds_any rest))
        ≡ or_further e (first_missing policy required e) (first_uncovered policy required rest)
    go true h i = unfold first_uncovered in ap (or_further e (first_missing policy required e)) i
    go false h i = i ∙ rw (lacks_none policy required e h) (unfold or_further in refl)

-- What is found among the first, or else among the others.
unfoldable or_else : {A : Type 0} → Option A → Option A → Option A
or_else (some a) further = some a
or_else none further = further

uncovered_append : (policy : List Tree) (required : Required) (xs ys : List Entry)
    → first_uncovered policy required (xs ++ ys) ≡ or_else (first_uncovered policy required xs) (first_uncovered policy required ys)
unfolding first_uncovered or_else
uncovered_append policy required [] ys = refl
uncovered_append policy required (e ∷ xs) ys =
    ap (or_further e (first_missing policy required e)) (uncovered_append policy required xs ys) ∙ go (first_missing policy required e)
  where
    go : (m : Option Permission)
        → or_further e m (or_else (first_uncovered policy required xs) (first_uncovered policy required ys))
        ≡ or_else (or_further e m (first_uncovered policy required xs)) (first_uncovered policy required ys)
    go (some p) = unfold or_further or_else in refl
    go none = unfold or_further in refl

-- What an entry lacks; a kind that is not marked has no entry.
abbrev pub kind_missing : List Tree → Required → List ℕ → ℕ → ℕ → Option Permission
kind_missing policy required table n k = cond (is_set (cell table n k 11)) (first_missing policy required (entry_at table n k)) none

module _ (c nodes : List ℕ) (trees : Trees) (table sums : List ℕ) (n k : ℕ) (u : Bool) (is : u ≡ is_set (cell table n k 11)) where
  pub none_marked : not u ≡ true → (policy : List Tree) → AllHeld c nodes trees 0 policy → Orderly table n → (required : Required) → Summed table sums required n k
      → kind_missing policy required table n k ≡ told_in None
  none_marked h policy held up required sum = rw (← is, not-true u h) refl

  -- what `covering` finds for an entry
  pub lacks_at : not u ≡ false → (r : Covering) (p : Answer Told)
      → ((policy : List Tree) → AllHeld c nodes trees 0 policy → Orderly table n → (required : Required) → Summed table sums required n k
      → verdicts_of r ≡ covering policy required (entry_at table n k)) → told_in p ≡ lacking_in (verdicts_of r)
      → (policy : List Tree) → AllHeld c nodes trees 0 policy → Orderly table n → (required : Required) → Summed table sums required n k
      → kind_missing policy required table n k ≡ told_in p
  unfolding first_missing lacking_in
  lacks_at h r p told e policy held up required sum = rw (← is, not-false u h, e, told policy held up required sum) refl

-- The kinds passed so far lack nothing, so that those left decide, of which those that are marked count.
abbrev kinds_from : List ℕ → ℕ → ℕ → ℕ → List Entry
kinds_from table n start m = map (entry_at table n) (only (λ k. is_set (cell table n k 11)) (rising start m))

pub record KindsLeft (c nodes : List ℕ) (trees : Trees) (table sums : List ℕ) (n kind : ℕ) : Type 0 where
  pub within : kind ≤ 16
  pub same : (policy : List Tree) → AllHeld c nodes trees 0 policy → Orderly table n → (required : Required) → ((k : ℕ) → k < 16 → Summed table sums required n k)
      → first_uncovered policy required (row_entries table n) ≡ first_uncovered policy required (kinds_from table n kind (16 - kind))

pub kinds_left : (c nodes : List ℕ) (trees : Trees) (table sums : List ℕ) (n : ℕ) → KindsLeft c nodes trees table sums n 0
kinds_left c nodes trees table sums n = record {
  within = omega arith;
  same = λ policy held up required sum. unfold row_entries used_kinds in uncovered_only policy required (map (entry_at table n) (used_kinds table n));
}

-- a kind, then those after it
kind_then : (policy : List Tree) (required : Required) (table : List ℕ) (n kind : ℕ) → kind < 16
    → first_uncovered policy required (kinds_from table n kind (16 - kind))
    ≡ or_further (entry_at table n kind) (kind_missing policy required table n kind) (first_uncovered policy required (kinds_from table n (kind + 1) (16 - (kind + 1))))
unfolding only
kind_then policy required table n kind here =
    ap (λ (l : List ℕ). first_uncovered policy required (map (entry_at table n) (only (λ k. is_set (cell table n k 11)) l))) (rising_next kind 16 here)
    ∙ go (is_set (cell table n kind 11)) (only (λ k. is_set (cell table n k 11)) (rising (kind + 1) (16 - (kind + 1))))
  where
    go : (b : Bool) (rest : List ℕ) → first_uncovered policy required (map (entry_at table n) (cond b (kind ∷ rest) rest))
        ≡ or_further (entry_at table n kind) (cond b (first_missing policy required (entry_at table n kind)) none) (first_uncovered policy required (map (entry_at table n) rest))
    go true rest = unfold first_uncovered in refl
    go false rest = unfold or_further in refl

module _ (c nodes : List ℕ) (trees : Trees) (table sums : List ℕ) (n kind : ℕ) (left : KindsLeft c nodes trees table sums n kind) where
  abbrev Lacks : Answer Told → Type 0
  Lacks p = (policy : List Tree) → AllHeld c nodes trees 0 policy → Orderly table n → (required : Required) → Summed table sums required n kind
      → kind_missing policy required table n kind ≡ told_in p

  kind_turn : kind < 16 → (p : Answer Told) → Lacks p → (policy : List Tree) → AllHeld c nodes trees 0 policy → Orderly table n → (required : Required) → ((k : ℕ) → k < 16 → Summed table sums required n k)
      → first_uncovered policy required (row_entries table n)
      ≡ or_further (entry_at table n kind) (told_in p) (first_uncovered policy required (kinds_from table n (kind + 1) (16 - (kind + 1))))
  kind_turn here p lacks policy held up required sum =
      left.same policy held up required sum
      ∙ kind_then policy required table n kind here
      ∙ ap (λ (m : Option Permission). or_further (entry_at table n kind) m (first_uncovered policy required (kinds_from table n (kind + 1) (16 - (kind + 1)))))
      (lacks policy held up required (sum kind here))

  pub kind_lacks : kind < 16 → (p : Told) → Lacks (Some p) → (policy : List Tree) → AllHeld c nodes trees 0 policy → Orderly table n → (required : Required) → ((k : ℕ) → k < 16 → Summed table sums required n k)
      → first_uncovered policy required (row_entries table n) ≡ uncovered_at table (Some (record { component = n; kind = kind; permission = p }))
  unfolding uncovered_at or_further entry_at
  kind_lacks here p lacks policy held up required sum = kind_turn here (Some p) lacks policy held up required sum

  pub kind_covered : kind < 16 → Lacks None → KindsLeft c nodes trees table sums n (kind + 1)
  unfolding or_further
  kind_covered here lacks = record {
    within = omega arith;
    same = λ policy held up required sum. kind_turn here None lacks policy held up required sum;
  }

pub kinds_covered : (c nodes : List ℕ) (trees : Trees) (table sums : List ℕ) (n kind : ℕ) → KindsLeft c nodes trees table sums n kind → 16 ≤ kind
    → (policy : List Tree) → AllHeld c nodes trees 0 policy → Orderly table n → (required : Required) → ((k : ℕ) → k < 16 → Summed table sums required n k)
    → first_uncovered policy required (row_entries table n) ≡ uncovered_at table None
unfolding first_uncovered only uncovered_at
kinds_covered c nodes trees table sums n kind left done policy held up required sum =
    left.same policy held up required sum
    ∙ ap (λ (l : List ℕ). first_uncovered policy required (map (entry_at table n) (only (λ k. is_set (cell table n k 11)) l))) (rising_done kind 16 done)

-- The same of components.
pub record RowsLeft (c nodes : List ℕ) (trees : Trees) (table sums : List ℕ) (m i : ℕ) : Type 0 where
  pub within : i ≤ m
  pub same : (policy : List Tree) → AllHeld c nodes trees 0 policy → ((n : ℕ) → n < m → Orderly table n)
      → (required : Required) → ((n k : ℕ) → n < m → k < 16 → Summed table sums required n k)
      → first_uncovered policy required (table_entries table m)
      ≡ first_uncovered policy required (gather (row_entries table) (rising i (m - i)))

pub rows_left : (c nodes : List ℕ) (trees : Trees) (table sums : List ℕ) (m : ℕ) → RowsLeft c nodes trees table sums m 0
unfolding table_entries
rows_left c nodes trees table sums m = record {
  within = omega arith;
  same = λ policy held up required sum. ap (λ (k : ℕ). first_uncovered policy required (gather (row_entries table) (rising 0 k))) (omega arith);
}

module _ (c nodes : List ℕ) (trees : Trees) (table sums : List ℕ) (m i : ℕ) (left : RowsLeft c nodes trees table sums m i) (found : Answer Missing) where
  abbrev Finds : Type 0
  Finds = (policy : List Tree) → AllHeld c nodes trees 0 policy → Orderly table i → (required : Required) → ((k : ℕ) → k < 16 → Summed table sums required i k)
      → first_uncovered policy required (row_entries table i) ≡ uncovered_at table found

  row_turn : i < m → Finds → (policy : List Tree) → AllHeld c nodes trees 0 policy → ((n : ℕ) → n < m → Orderly table n)
      → (required : Required) → ((n k : ℕ) → n < m → k < 16 → Summed table sums required n k)
      → first_uncovered policy required (table_entries table m)
      ≡ or_else (uncovered_at table found) (first_uncovered policy required (gather (row_entries table) (rising (i + 1) (m - (i + 1)))))
  unfolding gather
  row_turn here finds policy held up required sum =
      left.same policy held up required sum
      ∙ ap (λ (l : List ℕ). first_uncovered policy required (gather (row_entries table) l)) (rising_next i m here)
      ∙ uncovered_append policy required (row_entries table i) (gather (row_entries table) (rising (i + 1) (m - (i + 1))))
      ∙ ap (λ (u : Option Uncovered). or_else u (first_uncovered policy required (gather (row_entries table) (rising (i + 1) (m - (i + 1))))))
      (finds policy held (up i here) required (λ k l. sum i k here l))

  pub row_lacks : i < m → Finds → (f : Missing) → found ≡ Some f → (policy : List Tree) → AllHeld c nodes trees 0 policy → ((n : ℕ) → n < m → Orderly table n)
      → (required : Required) → ((n k : ℕ) → n < m → k < 16 → Summed table sums required n k)
      → first_uncovered policy required (table_entries table m) ≡ uncovered_at table (Some f)
  unfolding uncovered_at or_else
  row_lacks here finds f e policy held up required sum = row_turn here finds policy held up required sum ∙ rw e refl

  pub row_covered : i < m → Finds → found ≡ None → RowsLeft c nodes trees table sums m (i + 1)
  unfolding uncovered_at or_else
  row_covered here finds e = record {
    within = omega arith;
    same = λ policy held up required sum. row_turn here finds policy held up required sum ∙ rw e refl;
  }

pub rows_covered : (c nodes : List ℕ) (trees : Trees) (table sums : List ℕ) (m i : ℕ) → RowsLeft c nodes trees table sums m i → m ≤ i
    → (policy : List Tree) → AllHeld c nodes trees 0 policy → ((n : ℕ) → n < m → Orderly table n)
    → (required : Required) → ((n k : ℕ) → n < m → k < 16 → Summed table sums required n k)
    → first_uncovered policy required (table_entries table m) ≡ uncovered_at table None
unfolding first_uncovered gather uncovered_at
rows_covered c nodes trees table sums m i left done policy held up required sum =
    left.same policy held up required sum
    ∙ ap (λ (l : List ℕ). first_uncovered policy required (gather (row_entries table) l)) (rising_done i m done)

-- With the sums that were made in clear memory.
pub found_all : (c nodes : List ℕ) (trees : Trees) (table sums : List ℕ) (components : ℕ) (r : Answer Missing)
    → ((policy : List Tree) → AllHeld c nodes trees 0 policy → ((n : ℕ) → n < components → Orderly table n)
    → (required : Required) → ((n k : ℕ) → n < components → k < 16 → Summed table sums required n k)
    → first_uncovered policy required (table_entries table components) ≡ uncovered_at table r)
    → components ≤ 32 → sums ≡ add_rows (replicate 4128 0) table 0 components → (policy : List Tree) → AllHeld c nodes trees 0 policy
    → ((n : ℕ) → n < components → Orderly table n)
    → first_uncovered policy (table_required table components) (table_entries table components) ≡ uncovered_at table r
found_all c nodes trees table sums components r told h is policy held up = told policy held up (table_required table components) (all_sums table sums components h is up)

pub ruleset search_steps = (rules, none_marked, lacks_at, kinds_left, kind_lacks, kind_covered, kinds_covered, rows_left, row_lacks, row_covered, rows_covered, found_all)
