-- Laws of the stored slack: how long its parts are, and that what is written from the tables is the definition's, since the verdicts
-- found in the tables are the covering (`verdicts_for_lem` of the crate fit).
use Prim.Native.Nat.{ℕ, zero, suc, ◌+◌, ◌-◌, ◌*◌, ◌<◌, ◌≤◌}
use mathlib.Core.Path.{◌≡◌, refl, sym, ap, ◌∙◌}
use mathlib.Core.List.{List, [], ◌∷◌, ◌++◌, map}
use mathlib.Core.Bool.{Bool, true, false, cond, not}
use native.Mathlib.Omega.{arith}
use lib.ListN.{length, take, drop, get_or, length-append}
use lib.Seq.{drop-cons}
use Rattle.inference.specs.Lists.{only, gather, rising}
use Rattle.inference.specs.Counts.{is_zero}
use Rattle.inference.specs.Interface.{Disclosure, Permission, reading, writing, accessing, head_then, holds_any, Required}
use Rattle.inference.specs.Rows.{Orderly, is_set, cell, group_count, path_at, disclosures_at, entry_at, row_entries, table_entries}
use Rattle.interface.proofs.WriteLaws.{parts_from}
use Rattle.interface.proofs.InterfaceLaws.{cond_few, set_count, disclosures_few, head_length, path_few, parts_few, row_parts, table_parts}
use Rattle.sharing.specs.Sums.{Summed}
use Rattle.policy.specs.Syntax.{Tree}
use Rattle.policy.specs.Loads.{AllHeld}
use Rattle.policy.specs.declared.Trees.{Trees}
use Rattle.fit.specs.declared.Covering.{Covering}
use Rattle.fit.specs.declared.Flag.{Flag}
use Rattle.fit.specs.declared.Flag.TheVariants.{Unneeded, Granted, Lacking}
use Rattle.fit.specs.Satisfies.{Verdict, flag, counts}
use Rattle.fit.specs.Covers.{flag_verdicts, flags_then, sum_verdict, sum_verdicts, verdicts_of, flag_at, flags_at, place_verdict, places_from, verdicts_at, verdicts_for}
use Rattle.fit.proofs.EntryLaws.{verdicts_for_lem}
use Rattle.slack.specs.Slack.{count_bytes, verdict_bytes, on_group, sums_bytes, slack_entry}
use Rattle.slack.specs.Rows.{slack_at, slack_row, slack_rows}

-- What is made of the first elements of a list, one after the other.
parts_from_lem : {A B : Type 0} (f : A → List B) (l : List A) (d : A) (n i : ℕ) → i + n ≤ length l
    → gather (λ j. f (get_or l j d)) (rising i n) ≡ gather f (take n (drop i l))
unfolding gather rising
parts_from_lem f l d zero i h = refl
parts_from_lem {B = B} f l d (suc n) i h = rw (drop-cons l i d (omega arith)) (ap (λ (m : List B). f (get_or l i d) ++ m) (parts_from_lem f l d n (suc i) (omega arith)))

pub parts_are : {A B : Type 0} (f : A → List B) (l : List A) (d : A) (n : ℕ) → n ≤ length l → parts_from (λ j. f (get_or l j d)) n 0 ≡ gather f (take n l)
unfolding parts_from
parts_are f l d n h = let z : n - 0 ≡ n = omega arith in rw z (parts_from_lem f l d n 0 (omega arith))

pub gather_map : {A B C : Type 0} (f : B → List C) (g : A → B) (l : List A) → gather f (map g l) ≡ gather (λ x. f (g x)) l
unfolding gather
gather_map f g [] = refl
gather_map {C = C} f g (x ∷ l) = ap (λ (m : List C). f (g x) ++ m) (gather_map f g l)

-- A verdict on a group has five bytes, one on a flag none.
pub verdict_few : (v : Verdict) → length (verdict_bytes v) ≤ 5
unfolding verdict_bytes count_bytes
verdict_few (flag p granted) = omega arith
verdict_few (counts h needed granted) = omega arith

-- Verdicts on so many groups.
unfoldable pub sums_length : ℕ → ℕ
sums_length zero = 0
sums_length (suc n) = 1 + 5 * suc n

module _ {A : Type 0} (f : A → Verdict) (five : (x : A) → length (verdict_bytes (f x)) ≡ 5) where
  pub five_each : (l : List A) → length (gather verdict_bytes (map f l)) ≡ 5 * length l
  unfolding gather
  five_each [] = refl
  five_each (x ∷ l) = omega (arith, length-append (verdict_bytes (f x)) (gather verdict_bytes (map f l)), five x, five_each l)

  sums_length_lem : (l : List A) → length (sums_bytes (map f l)) ≡ sums_length (length l)
  unfolding sums_bytes sums_length
  sums_length_lem [] = refl
  sums_length_lem (x ∷ l) = omega (arith, five_each (x ∷ l))

-- Verdicts on groups are what is left without those on flags.
flag_left_out : (p : Permission) (f : Flag) (rest : List Verdict) → only on_group (flag_verdicts p f ++ rest) ≡ only on_group rest
unfolding flag_verdicts only on_group
flag_left_out p Unneeded rest = refl
flag_left_out p Granted rest = refl
flag_left_out p Lacking rest = refl

flag_at_left_out : (p : Permission) (v : ℕ) (c nodes rows : List ℕ) (needed : ℕ) (rest : List Verdict) → only on_group (flag_at p v c nodes rows needed ++ rest) ≡ only on_group rest
unfolding flag_at only on_group
flag_at_left_out p v c nodes rows needed rest = go (is_set needed) _
  where
    go : (b x : Bool) → only on_group (cond b (flag p x ∷ []) [] ++ rest) ≡ only on_group rest
    go true x = refl
    go false x = refl

all_on_groups : {A : Type 0} (f : A → Verdict) → ((x : A) → on_group (f x) ≡ true) → (l : List A) → only on_group (map f l) ≡ map f l
unfolding only
all_on_groups f h [] = refl
all_on_groups f h (x ∷ l) = rw (h x) (ap (λ (vs : List Verdict). f x ∷ vs) (all_on_groups f h l))

pub sums_only : (r : Covering) → only on_group (verdicts_of r) ≡ sum_verdicts r.sums
unfolding verdicts_of flags_then sum_verdicts
sums_only r =
    flag_left_out reading r.flags.read _ ∙ flag_left_out writing r.flags.write _ ∙ flag_left_out accessing r.flags.access _
    ∙ all_on_groups sum_verdict (λ s. unfold sum_verdict on_group in refl) (take r.sums.len r.sums.items)

places_only : (c nodes rows table sums : List ℕ) (n k : ℕ)
    → only on_group (verdicts_at c nodes rows table sums n k) ≡ places_from 0 (group_count table n) c nodes rows table sums n k
unfolding verdicts_at flags_at places_from
places_only c nodes rows table sums n k =
    flag_at_left_out reading 1 c nodes rows (cell table n k 8) _ ∙ flag_at_left_out writing 2 c nodes rows (cell table n k 9) _
    ∙ flag_at_left_out accessing 4 c nodes rows (cell table n k 10) _
    ∙ all_on_groups (place_verdict c nodes rows table sums n k) (λ i. unfold place_verdict on_group in refl) (only (λ i. is_set (cell table n k i)) (rising 0 (group_count table n)))

-- An entry has one for each group that it discloses to.
as_many : {A : Type 0} (p : ℕ → Bool) (q : A → Bool) (f : ℕ → A) → ((i : ℕ) → q (f i) ≡ p i) → (l : List ℕ) → length (only p l) ≡ length (only q (map f l))
unfolding only
as_many p q f h [] = refl
as_many {A} p q f h (i ∷ l) = rw (h i) (go (p i) (only p l) (only q (map f l)) (as_many p q f h l))
  where
    go : (b : Bool) (xs : List ℕ) (ys : List A) → length xs ≡ length ys → length (cond b (i ∷ xs) xs) ≡ length (cond b (f i ∷ ys) ys)
    go true xs ys e = ap suc e
    go false xs ys e = e

groups_length : (c nodes rows table sums : List ℕ) (n k : ℕ)
    → length (sums_bytes (only on_group (verdicts_at c nodes rows table sums n k))) ≡ sums_length (length (disclosures_at table n k))
unfolding places_from disclosures_at
groups_length c nodes rows table sums n k =
    rw (places_only c nodes rows table sums n k)
    (sums_length_lem (place_verdict c nodes rows table sums n k) (λ i. unfold place_verdict verdict_bytes count_bytes in refl)
    (only (λ i. is_set (cell table n k i)) (rising 0 (group_count table n)))
    ∙ ap sums_length (as_many (λ i. is_set (cell table n k i)) (λ (d : Disclosure). not (is_zero d.count)) _ (λ i. set_count (cell table n k i)) (rising 0 (group_count table n))))

sums_few : (n : ℕ) → n ≤ 8 → sums_length n ≤ 41
unfolding sums_length
sums_few zero h = omega arith
sums_few (suc n) h = omega arith

module _ (c nodes : List ℕ) (trees : Trees) (table sums : List ℕ) where
  -- The length of an entry with its slack.
  pub whole_length : (n k : ℕ) → length (head_then (entry_at table n k) (sums_bytes (only on_group (verdicts_for c nodes trees table sums n k))))
      ≡ 4 + (length (path_at table n) + sums_length (length (disclosures_at table n k)))
  unfolding verdicts_for
  whole_length n k =
      head_length (entry_at table n k) _
      ∙ unfold entry_at in ap (λ (m : ℕ). 4 + (length (path_at table n) + m)) (groups_length c nodes _ table sums n k)

  pub at_few : (n k : ℕ) → length (slack_at c nodes trees table sums n k) ≤ 53
  unfolding slack_at
  at_few n k =
      cond_few (is_set (cell table n k 11)) _ 53
      (cond_few (holds_any (entry_at table n k)) _ 53
      (omega (arith, whole_length n k, path_few table n, sums_few (length (disclosures_at table n k)) (disclosures_few table n k))))

  pub row_is : (n : ℕ) → slack_row c nodes trees table sums n ≡ parts_from (slack_at c nodes trees table sums n) 16 0
  unfolding slack_row parts_from
  row_is n = refl

  pub rows_are : (m : ℕ) → slack_rows c nodes trees table sums m ≡ parts_from (slack_row c nodes trees table sums) m 0
  unfolding slack_rows parts_from
  rows_are m = let z : m - 0 ≡ m = omega arith in rw z refl

  pub slack_row_few : (n : ℕ) → length (slack_row c nodes trees table sums n) ≤ 848
  slack_row_few n = rw (row_is n) (parts_few (slack_at c nodes trees table sums n) 53 16 (at_few n))

-- Parts that are the same make the same.
same_from : {A : Type 0} (f g : ℕ → List A) (n i : ℕ) → ((j : ℕ) → j < i + n → f j ≡ g j) → gather f (rising i n) ≡ gather g (rising i n)
unfolding gather rising
same_from f g zero i h = refl
same_from f g (suc n) i h = rw (h i (omega arith), same_from f g n (suc i) (λ j l. h j (omega arith))) refl

-- What is written from the tables is the definition's.
module _ (c nodes : List ℕ) (trees : Trees) (policy : List Tree) (held : AllHeld c nodes trees 0 policy) (few : trees.len ≤ 16) (kinds : length trees.kinds ≡ 16)
    (table sums : List ℕ) (required : Required) where
  slack_row_lem : (n : ℕ) → Orderly table n → ((k : ℕ) → k < 16 → Summed table sums required n k)
      → slack_row c nodes trees table sums n ≡ gather (slack_entry policy required) (row_entries table n)
  unfolding slack_row slack_at slack_entry parts_from
  slack_row_lem n up sum =
      same_from _ (λ k. cond (is_set (cell table n k 11)) (cond (holds_any (entry_at table n k)) (slack_entry policy required (entry_at table n k)) []) []) 16 0
      (λ k l. rw (verdicts_for_lem c nodes trees policy held few kinds table sums n k up required (sum k (omega arith))) refl)
      ∙ sym (row_parts table n (slack_entry policy required))

  pub slack_rows_lem : (m : ℕ) → ((n : ℕ) → n < m → Orderly table n) → ((n k : ℕ) → n < m → k < 16 → Summed table sums required n k)
      → slack_rows c nodes trees table sums m ≡ gather (slack_entry policy required) (table_entries table m)
  unfolding slack_rows parts_from
  slack_rows_lem m up sum =
      let z : m - 0 ≡ m = omega arith in
      same_from (slack_row c nodes trees table sums) (λ n. gather (slack_entry policy required) (row_entries table n)) m 0
      (λ n l. slack_row_lem n (up n (omega arith)) (λ k i. sum n k (omega arith) i))
      ∙ sym (rw z at (table_parts (slack_entry policy required) table m))
