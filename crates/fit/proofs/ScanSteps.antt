-- The scan that finds a path's givers (src/grants.rt), step by step: the table by group before it, the nodes of the tree one by one, and the
-- rows that the table tells of the path's groups.
use Prim.Native.Nat.{ℕ, ◌+◌, ◌-◌, ◌≤◌, ◌<◌, min}
use borrow.Author.Rules.{rules}
use mathlib.Core.Path.{◌≡◌, refl, sym, ap, ◌∙◌}
use mathlib.Core.Bool.{Bool, true, false, cond, not, ◌||◌}
use mathlib.Core.List.{List, [], ◌∷◌, ◌++◌, map, append_assoc, append-nil}
use native.Mathlib.Omega.{arith}
use borrow.Author.Tests.{ltb-true, ltb-false, le-ltb, lt-ltb, eqb-true, eqb-false, eq-eqb, ne_eqb}
use lib.Dec.{ltb, eqb}
use lib.ListN.{length, get_or, take, drop, set, replicate, length-set, get_or-replicate, get_or-eq_default, drop_of_length-le}
use lib.Seq.{get_or-set_same, get_or-set_other, set-get_or}
use Rattle.reading.specs.Forms.{member}
use Rattle.reading.proofs.PathLaws.{one_more}
use Rattle.reading.proofs.Tables.{unset}
use Rattle.fit.proofs.GrantSteps.{one_left}
use Rattle.policy.specs.Rows.{Flat, node_at, flat_of, flats}
use Rattle.policy.specs.declared.Node.{Node}
use Rattle.policy.proofs.NodeLaws.{node_steps, group_small}
use Rattle.policy.proofs.RowLaws.{flats_more, flats_none}
use Rattle.fit.specs.Givers.{giver_in, Marked, row_in}

-- Within a list no default is read.
any_default : (l : List ℕ) (i d e : ℕ) → i < length l → get_or l i d ≡ get_or l i e
any_default l i d e h = rw (set-get_or l i e) at (get_or-set_same l i (get_or l i e) d h)

-- The groups of the first i places of a path are marked: the marked ones and those from place i on are the path's.
pub record MarksSoFar (path first : List ℕ) (i : ℕ) : Type 0 where
  pub long : length first ≡ 64
  pub same : (g : ℕ) → g < 64 → cond (member g (drop i path)) 64 (get_or first g 64) ≡ cond (member g path) 64 65

pub marks_start : (path : List ℕ) → MarksSoFar path (replicate 64 65) 0
marks_start path = record { long = refl; same = λ g h. rw (get_or-replicate {A = ℕ} 64 g 65 64 h) }

module _ (path first : List ℕ) (i : ℕ) (s : MarksSoFar path first i) where
  pub marks_end : length path ≤ i → (whole : List ℕ) → path ≡ whole → Marked whole first
  unfolding member
  marks_end h whole e g k = rw (← e) (rw (drop_of_length-le path {i = i} h) at (s.same g k))

  pub marks_next : i < length path → (m : List ℕ) → m ≡ set first (get_or path i 0) 64 → MarksSoFar path m (i + 1)
  unfolding member
  marks_next h m e = record {
    long = rw e (length-set first (get_or path i 0) 64 ∙ s.long);
    same = λ g k.
        rw e (go g k (eqb (get_or path i 0) g) refl (member g (drop (i + 1) path)))
        ∙ (rw (one_left path i 0 h) at (s.same g k));
  }
    where
      go : (g : ℕ) → g < 64 → (t : Bool) → eqb (get_or path i 0) g ≡ t → (b : Bool)
          → cond b 64 (get_or (set first (get_or path i 0) 64) g 64) ≡ cond (t || b) 64 (get_or first g 64)
      go g k true q true = refl
      go g k true q false =
          rw (← eqb-true (get_or path i 0) g q)
          (get_or-set_same first (get_or path i 0) 64 64 (omega (arith, eqb-true (get_or path i 0) g q, s.long)))
      go g k false q b = rw (get_or-set_other first (get_or path i 0) g 64 64 (λ z. eqb-false (get_or path i 0) g q (sym z)))

  -- a group that the table does not have
  pub marks_past : i < length path → length first ≤ get_or path i 0 → MarksSoFar path first (i + 1)
  marks_past h l = marks_next h first (unset first (get_or path i 0) 64 l)

pub ruleset mark_steps = (node_steps, marks_start, marks_end, marks_next, marks_past)

-- One node: nothing is told where it stands too deep, or where its group's row is before.
module _ (first : List ℕ) (group depth limit row : ℕ) where
  abbrev before : ℕ
  before = get_or first group 0

  abbrev told_then : ℕ
  told_then = cond (ltb limit depth) before (cond (eqb before 64) row before)

  abbrev limit_then : ℕ
  limit_then = cond (ltb limit depth) limit (cond (ltb 64 before) depth (depth + 1))

  pub pass_deep : limit < depth → first ≡ set first group told_then
  pass_deep h = rw (lt-ltb limit depth h) (sym (set-get_or first group 0))

  pub pass_known : depth ≤ limit → (before ≡ 64 → ⊥) → first ≡ set first group told_then
  pass_known h k = rw (le-ltb limit depth h, ne_eqb before 64 k) (sym (set-get_or first group 0))

  pub pass_first : depth ≤ limit → before ≡ 64 → set first group row ≡ set first group told_then
  pass_first h k = rw (le-ltb limit depth h, eq-eqb before 64 k) refl

  pub limit_deep : limit < depth → limit ≡ limit_then
  limit_deep h = rw (lt-ltb limit depth h) refl

  pub limit_in : depth ≤ limit → before ≤ 64 → depth + 1 ≡ limit_then
  limit_in h k = rw (le-ltb limit depth h, le-ltb 64 before k) refl

  pub limit_out : depth ≤ limit → 64 < before → depth ≡ limit_then
  limit_out h k = rw (le-ltb limit depth h, lt-ltb 64 before k) refl

pub ruleset pass_steps = (rules, pass_deep, pass_known, pass_first, limit_deep, limit_in, limit_out)

-- The scan of a tree has come to row i with the table `first`: which groups are marked stays, and what the table does not tell of a group,
-- the rows that are left tell.
pub record ScanSoFar (nodes : List ℕ) (start end : ℕ) (marks first : List ℕ) (limit i : ℕ) : Type 0 where
  pub long : length first ≡ 64
  pub kept : (g : ℕ) → g < 64 → ltb 64 (get_or first g 64) ≡ ltb 64 (get_or marks g 64)
  pub same : (path : List ℕ) → Marked path marks → (c : List ℕ) (g : ℕ) → giver_in path g 0 start (flats c nodes start (end - start))
      ≡ cond (ltb (get_or first g 64) 64) (get_or first g 64) (giver_in path g limit i (flats c nodes i (end - i)))

module _ (marks path : List ℕ) (m : Marked path marks) where
  none_met : length marks ≡ 64 → (g : ℕ) → ltb (get_or marks g 64) 64 ≡ false
  none_met l g = go (ltb g 64) refl
    where
      under : (b : Bool) → ltb (cond b 64 65) 64 ≡ false
      under true = refl
      under false = refl

      go : (b : Bool) → ltb g 64 ≡ b → ltb (get_or marks g 64) 64 ≡ false
      go true e = rw (m g (ltb-true g 64 e)) (under (member g path))
      go false e = rw (get_or-eq_default marks 64 {n = g} (omega (arith, ltb-false g 64 e)))

  in_path_lem : (g : ℕ) → g < 64 → ltb 64 (get_or marks g 64) ≡ not (member g path)
  in_path_lem g h = rw (m g h) (over (member g path))
    where
      over : (b : Bool) → ltb 64 (cond b 64 65) ≡ not b
      over true = refl
      over false = refl

pub scan_start : (nodes : List ℕ) (start end : ℕ) (marks : List ℕ) (limit : ℕ) → length marks ≡ 64 → limit ≡ 0 → ScanSoFar nodes start end marks marks limit start
scan_start nodes start end marks limit l zero = rw zero (record {
  long = l;
  kept = λ g h. refl;
  same = λ path m c g. rw (none_met marks path m l g);
})

-- One node in plain values: `known`, what the table tells of its group; `a`, it stands below the limit; `b`, its group is in the path;
-- `later`, what the rows after it tell at a limit. What is then told of its own group, and of another.
module _ (later : ℕ → ℕ) (limit depth : ℕ) where
  own_row : (i known : ℕ) → i < 64 → (a b : Bool) → ltb 64 known ≡ not b → (q : Bool) → eqb known 64 ≡ q
      → cond (ltb known 64) known (cond a (later limit) (cond b i (later depth)))
      ≡ (let v : ℕ = cond a known (cond q i known) in cond (ltb v 64) v (later (cond a limit (cond (not b) depth (depth + 1)))))
  own_row i known h true b p q r = refl
  own_row i known h false true p true r = rw (eqb-true known 64 r, lt-ltb i 64 h)
  own_row i known h false true p false r = rw (lt-ltb known 64 (omega (arith, ltb-false 64 known p, eqb-false known 64 r)))
  own_row i known h false false p true r = absurd (omega (arith, ltb-true 64 known p, eqb-true known 64 r))
  own_row i known h false false p false r = refl

  other_row : (a b : Bool) → cond a (later limit) (cond b (later (depth + 1)) (later depth)) ≡ later (cond a limit (cond (not b) depth (depth + 1)))
  other_row true b = refl
  other_row false true = refl
  other_row false false = refl

module _ (nodes : List ℕ) (start end : ℕ) (marks first : List ℕ) (limit i : ℕ) (s : ScanSoFar nodes start end marks first limit i) where
  pub scan_end : end ≤ i → (path : List ℕ) → Marked path marks
      → (c : List ℕ) (g : ℕ) → row_in first g ≡ giver_in path g 0 start (flats c nodes start (end - start))
  unfolding giver_in row_in
  scan_end h path m c g = sym (rw (flats_none c nodes i end h) at (s.same path m c g))

  -- At row i, with the node there, what is known of its group after it, and the limit after it.
  module _ (h : i < end) (few : end ≤ 64) (n : Node) (at : n ≡ node_at nodes i) (v l : ℕ)
      (told : v ≡ cond (ltb limit n.depth) (get_or first n.group 0) (cond (eqb (get_or first n.group 0) 64) i (get_or first n.group 0)))
      (after : l ≡ cond (ltb limit n.depth) limit (cond (ltb 64 (get_or first n.group 0)) n.depth (n.depth + 1))) where
    abbrev known : ℕ
    known = get_or first n.group 0

    abbrev then : List ℕ
    then = set first n.group v

    small : n.group < 64
    small = group_small nodes i n at

    -- What the table tells of the node's own group before and after it, and of another.
    first_own : (g : ℕ) → eqb n.group g ≡ true → get_or first g 64 ≡ known
    first_own g e = rw (← eqb-true n.group g e) (any_default first n.group 64 0 (omega (arith, small, s.long)))

    then_own : (g : ℕ) → eqb n.group g ≡ true → get_or then g 64 ≡ v
    then_own g e = rw (← eqb-true n.group g e) (get_or-set_same first n.group v 64 (omega (arith, small, s.long)))

    then_other : (g : ℕ) → eqb n.group g ≡ false → get_or then g 64 ≡ get_or first g 64
    then_other g e = get_or-set_other first n.group g v 64 (λ z. eqb-false n.group g e (sym z))

    kept_own : ltb 64 v ≡ ltb 64 known
    kept_own = rw told (go (ltb limit n.depth) (eqb known 64) refl)
      where
        go : (a q : Bool) → eqb known 64 ≡ q → ltb 64 (cond a known (cond q i known)) ≡ ltb 64 known
        go true q p = refl
        go false true p = rw (le-ltb 64 i (omega arith), eqb-true known 64 p)
        go false false p = refl

    kept_next : (g : ℕ) → g < 64 → (t : Bool) → eqb n.group g ≡ t → ltb 64 (get_or then g 64) ≡ ltb 64 (get_or marks g 64)
    kept_next g k true e = rw (then_own g e, kept_own, ← first_own g e) (s.kept g k)
    kept_next g k false e = rw (then_other g e) (s.kept g k)

    -- What the table and the rows from i on tell of a group, the next table and the rows after i tell.
    module _ (path : List ℕ) (m : Marked path marks) (c : List ℕ) (later : List Flat) where
      known_in : ltb 64 known ≡ not (member n.group path)
      known_in = rw (← first_own n.group (eq-eqb n.group n.group refl)) (s.kept n.group small ∙ in_path_lem marks path m n.group small)

      same_next : (g : ℕ) (t : Bool) → eqb n.group g ≡ t
          → cond (ltb (get_or first g 64) 64) (get_or first g 64) (giver_in path g limit i (flat_of c n ∷ later))
          ≡ cond (ltb (get_or then g 64) 64) (get_or then g 64) (giver_in path g l (i + 1) later)
      unfolding giver_in flat_of
      same_next g true e =
          rw (first_own g e, then_own g e, e, after, told, known_in)
          (own_row (λ x. giver_in path g x (i + 1) later) limit n.depth i known (omega arith)
          (ltb limit n.depth) (member n.group path) known_in (eqb known 64) refl)
      same_next g false e =
          rw (then_other g e, e, after, known_in)
          (ap (cond (ltb (get_or first g 64) 64) (get_or first g 64))
          (other_row (λ x. giver_in path g x (i + 1) later) limit n.depth (ltb limit n.depth) (member n.group path)))

    pub scan_next : ScanSoFar nodes start end marks then l (i + 1)
    scan_next = record {
      long = length-set first n.group v ∙ s.long;
      kept = λ g k. kept_next g k (eqb n.group g) refl;
      same = λ path m c g.
          s.same path m c g
          ∙ rw (flats_more c nodes i end h, ← at) (same_next path m c (flats c nodes (i + 1) (end - (i + 1))) g (eqb n.group g) refl);
    }

  -- as the code passes it
  pub scan_pass : (h : i < end) → end ≤ 64 → (n : Node) → n ≡ node_at nodes i → (first' : List ℕ) (limit' : ℕ)
      → first' ≡ set first n.group (cond (ltb limit n.depth) (get_or first n.group 0) (cond (eqb (get_or first n.group 0) 64) i (get_or first n.group 0)))
      → limit' ≡ cond (ltb limit n.depth) limit (cond (ltb 64 (get_or first n.group 0)) n.depth (n.depth + 1))
      → ScanSoFar nodes start end marks first' limit' (i + 1)
  scan_pass h few n at first' limit' e f = rw e (scan_next h few n at _ limit' refl f)

pub ruleset scan_steps = (node_steps, scan_start, scan_end, scan_pass)

-- The row that the table tells of a group.
module _ (first : List ℕ) (g : ℕ) where
  pub row_out : length first ≤ g → 64 ≡ row_in first g
  unfolding row_in
  row_out h = rw (get_or-eq_default first 64 {n = g} h)

  pub row_told : g < length first → min (get_or first g 0) 64 ≡ row_in first g
  unfolding row_in
  row_told h = rw (any_default first g 64 0 h) (go (ltb (get_or first g 0) 64) refl)
    where
      go : (b : Bool) → ltb (get_or first g 0) 64 ≡ b → min (get_or first g 0) 64 ≡ cond b (get_or first g 0) 64
      go true e = omega (arith, ltb-true (get_or first g 0) 64 e)
      go false e = omega (arith, ltb-false (get_or first g 0) 64 e)

pub ruleset row_steps = (node_steps, row_out, row_told)

-- The rows of the first i of some numbers are made: of a path's groups, by a table, or of rows.
pub record GiversSoFar (f : ℕ → ℕ) (xs rows : List ℕ) (i : ℕ) : Type 0 where
  pub whole : take i rows ++ map f (drop i xs) ≡ map f xs
  pub few : length xs ≤ 8
  pub long : length rows ≡ 8

pub givers_start : (f : ℕ → ℕ) (xs rows : List ℕ) → length rows ≡ 8 → length xs ≤ 8 → GiversSoFar f xs rows 0
givers_start f xs rows h k = record { whole = refl; few = k; long = h }

module _ (f : ℕ → ℕ) (xs rows : List ℕ) (i : ℕ) (s : GiversSoFar f xs rows i) where
  pub givers_end : (n : ℕ) → n ≡ length xs → n ≤ i → i ≤ n → take n rows ≡ map f xs
  givers_end n e h k =
      let is : n ≡ i = omega arith in
      rw is (sym (append-nil (take i rows)) ∙ (rw (drop_of_length-le xs {i = i} (omega arith)) at s.whole))

  pub givers_room : i < length xs → i < length rows
  givers_room h = omega (arith, s.few, s.long)

  pub givers_next : i < length xs → (v : ℕ) → v ≡ f (get_or xs i 0) → GiversSoFar f xs (set rows i v) (i + 1)
  givers_next h v q = record {
    whole = rw (one_more rows i v s.long (omega (arith, s.few)), append_assoc, q) (rw (one_left xs i 0 h) at s.whole);
    few = s.few;
    long = length-set rows i v ∙ s.long;
  }

pub ruleset givers_steps = (node_steps, givers_start, givers_end, givers_room, givers_next)

-- Where the table tells each group's giver, the rows looked up are the givers.
pub rows_give : (first rows nodes path : List ℕ) (start end : ℕ) → rows ≡ map (row_in first) path
    → ((c : List ℕ) (g : ℕ) → row_in first g ≡ giver_in path g 0 start (flats c nodes start (end - start)))
    → (c : List ℕ) → rows ≡ map (λ g. giver_in path g 0 start (flats c nodes start (end - start))) path
rows_give first rows nodes path start end e told c = e ∙ (λ j. map (λ g. told c g j) path)
