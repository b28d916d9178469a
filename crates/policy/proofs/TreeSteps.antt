-- Reading a whole policy, tree by tree, to its end: where it reads, the table holds its trees.
use Prim.Native.Nat.{ℕ, zero, suc, ◌+◌, ◌-◌, ◌%◌, ◌<◌, ◌≤◌}
use mathlib.Core.List.{List, [], ◌∷◌, ◌++◌, append_assoc, append-nil}
use mathlib.Core.Path.{◌≡◌, refl, sym, ap, ◌∙◌}
use native.Mathlib.Numerals.{add-one, sub-one}
use native.Mathlib.Nat.{mod-eq_of_lt}
use native.Mathlib.Omega.{arith}
use borrow.Author.Rules.{rules}
use borrow.Author.Tests.{eq-eqb, ne_eqb}
use lib.ListN.{length, take, get_or, set, replicate, length-set, length-append, length-replicate}
use lib.Seq.{take-suc-set}
use Rattle.inference.specs.Lists.{rising}
use Rattle.std.specs.Prelude.{Result, Ok, Err}
use Rattle.reading.proofs.Parts.{below_found}
use Rattle.reading.specs.Read.{Read, got, refused, and_then, below}
use Rattle.reading.specs.System.{to_its_end}
use Rattle.reading.specs.Questions.{number_of}
use Rattle.reading.specs.Told.{number}
use Rattle.reading.specs.declared.Number.{Number}
use Rattle.reading.specs.declared.Question.TheVariants as question
use Rattle.reading.specs.declared.Refusal.{Refusal}
use Rattle.policy.proofs.NodeSteps.{root_got, root_not, first_rows}
use Rattle.policy.proofs.TreeLaws.{node_room, size, rows_of, kinds_of, ends_of, all_rows, rows_of_end, kinds_of_end, ends_of_end, all_rows_end, all_held, still_high}
use Rattle.policy.specs.Syntax.{Tree, alone, heads, heads_of}
use Rattle.policy.specs.Reading.{as_eleven, read_node, read_trees_in, read_trees, read_policy_in, read_policy}
use Rattle.policy.specs.Rows.{flats, flatten}
use Rattle.policy.specs.Loads.{node_read, Loaded, no_trees, with_tree, trees_to_end, start_of, LoadedPolicy, unread, loaded}
use Rattle.policy.specs.declared.PolicyAt.{PolicyAt}
use Rattle.policy.specs.declared.Trees.{Trees}

-- One tree, then the rest.
trees_step : (n : ℕ) (c : List ℕ) (used at : ℕ) → 0 < n → read_trees n c used at
    ≡ and_then (below 16 c at) (λ kind m.
    and_then (read_node 8 c used m) (λ root k.
    and_then (read_trees (n - 1) c (used + length (heads root)) k) (λ rest e. got (record { kind = kind; root = root } ∷ rest) e)))
unfolding read_trees_in
trees_step zero c used at h = absurd (omega arith)
trees_step (suc n) c used at h = rw (sub-one (suc n))

-- Trees before what is read.
unfoldable pub after : List Tree → Read (List Tree) → Read (List Tree)
after l x = and_then x (λ rest k. got (l ++ rest) k)

after_one : (l : List Tree) (t : Tree) (x : Read (List Tree)) → after l (and_then x (λ rest k. got (t ∷ rest) k)) ≡ after (l ++ (t ∷ [])) x
unfolding after and_then
after_one l t (got rest k) = rw (append_assoc l (t ∷ []) rest)
after_one l t (refused q p) = refl

after_none : (x : Read (List Tree)) → x ≡ after [] x
unfolding after and_then
after_none (got rest k) = refl
after_none (refused q p) = refl

-- The `done` trees that were read so far are in the table, and the rest is still to be read.
pub record TreesRead (c : List ℕ) (at count : ℕ) (nodes : List ℕ) (trees : Trees) (next used done : ℕ) : Type 0 where
  pub policy : List Tree
  pub all_done : trees.len ≡ done
  pub whole : read_trees count c 0 at ≡ after policy (read_trees (count - trees.len) c used next)
  pub many : trees.len ≡ length policy
  pub few : trees.len ≤ count
  pub long_kinds : length trees.kinds ≡ 16
  pub long_ends : length trees.ends ≡ 16
  pub kinds_are : take trees.len trees.kinds ≡ kinds_of policy
  pub ends_are : take trees.len trees.ends ≡ ends_of 0 policy
  pub used_is : used ≡ rows_of policy
  pub rows_are : flats c nodes 0 used ≡ all_rows policy
  pub high : (t : ℕ) → get_or trees.ends t 0 ≤ 64

all_zero_lem : (n t : ℕ) → get_or (replicate n 0) t 0 ≤ 64
all_zero_lem zero t = omega arith
all_zero_lem (suc n) zero = omega arith
all_zero_lem (suc n) (suc t) = all_zero_lem n t

pub none_read : (c : List ℕ) (at count : ℕ) (nodes : List ℕ) (trees : Trees) → trees ≡ no_trees → TreesRead c at count nodes trees at 0 0
unfolding no_trees flats rising kinds_of ends_of rows_of all_rows
none_read c at count nodes trees e =
    let z : count - 0 ≡ count = omega arith in
    rw e (record {
      policy = [];
      all_done = refl;
      whole = rw z (after_none (read_trees count c 0 at));
      many = refl;
      few = omega arith;
      long_kinds = length-replicate {A = ℕ} 16 0;
      long_ends = length-replicate {A = ℕ} 16 0;
      kinds_are = refl;
      ends_are = refl;
      used_is = refl;
      rows_are = refl;
      high = all_zero_lem 16;
    })

-- A refusal anywhere is question 11.
module _ (c : List ℕ) (at count : ℕ) where
  whole_refused : (q p : ℕ) → read_trees count c 0 at ≡ refused q p → trees_to_end count c at ≡ refused 11 p
  unfolding trees_to_end as_eleven and_then
  whole_refused q p e = rw e

  not_read : (nodes : List ℕ) (u : Refusal) (q p : ℕ) → read_trees count c 0 at ≡ refused q p → u ≡ record { question = question.Charter; at = p }
      → LoadedPolicy c (trees_to_end count c at) nodes (Err u)
  not_read nodes u q p e k = unread {why = record { question = question.Charter; at = p }} (whole_refused q p e) (rw k)

  read_to : (policy : List Tree) (next : ℕ) → read_trees count c 0 at ≡ got policy next → next ≡ length c → trees_to_end count c at ≡ got policy next
  unfolding trees_to_end as_eleven and_then to_its_end
  read_to policy next e h = rw (e, eq-eqb next (length c) h)

  read_short : (policy : List Tree) (next : ℕ) → read_trees count c 0 at ≡ got policy next → (next ≡ length c → ⊥) → trees_to_end count c at ≡ refused 11 next
  unfolding trees_to_end as_eleven and_then to_its_end
  read_short policy next e h = rw (e, ne_eqb next (length c) h)

module _ (c : List ℕ) (at count : ℕ) (nodes : List ℕ) (trees : Trees) (next used done : ℕ) (s : TreesRead c at count nodes trees next used done) where
  -- All trees are read.
  module _ (h : count ≤ done) where
    policy_is : read_trees count c 0 at ≡ got s.policy next
    unfolding read_trees_in after and_then
    policy_is = let z : count - trees.len ≡ 0 = omega (arith, s.all_done) in s.whole ∙ rw (z, append-nil s.policy)

    pub all_read : count ≤ 16 → next ≡ length c → LoadedPolicy c (trees_to_end count c at) nodes (Ok (record { trees = trees; next = next }))
    unfolding start_of
    all_read l e =
        let small : trees.len ≤ 16 = omega (arith, s.few) in
        loaded {policy = s.policy} {next = next} {p = record { trees = trees; next = next }} (read_to c at count s.policy next policy_is e) refl refl (record { few = small; rows = s.high })
        (all_held c nodes trees s.long_kinds s.long_ends small s.high s.policy 0 0 refl (omega (arith, s.many)) s.kinds_are s.ends_are (rw s.used_is at s.rows_are))

    pub left_over_lem : (u : Refusal) → (next ≡ length c → ⊥) → u ≡ record { question = question.Charter; at = next }
        → LoadedPolicy c (trees_to_end count c at) nodes (Err u)
    left_over_lem u e k = unread {why = record { question = question.Charter; at = next }} (read_short c at count s.policy next policy_is e) (rw k)

  -- One tree more is read.
  module _ (h : done < count) (small : count ≤ 16) (t : Tree) (m v j : ℕ) (z : below 16 c next ≡ got t.kind m) (y : read_node 8 c used m ≡ got t.root j)
      (u : v ≡ used + length (heads_of (alone t.root))) where
    as_sized : v ≡ used + size t
    unfolding size
    as_sized = u

    rest_is : after s.policy (read_trees (count - trees.len) c used next) ≡ after (s.policy ++ (t ∷ [])) (read_trees (count - (trees.len + 1)) c v j)
    unfolding and_then heads
    rest_is =
        let n : count - trees.len - 1 ≡ count - (trees.len + 1) = omega arith in
        rw (trees_step (count - trees.len) c used next (omega (arith, s.all_done)), z, y, n, ← u) (after_one s.policy t (read_trees (count - (trees.len + 1)) c v j))

    kinds_with : take (trees.len + 1) (set trees.kinds trees.len t.kind) ≡ kinds_of (s.policy ++ (t ∷ []))
    kinds_with =
        rw (add-one trees.len, kinds_of_end t s.policy, ← s.kinds_are)
        (take-suc-set trees.kinds trees.len t.kind (omega (arith, s.long_kinds, s.all_done)))

    ends_with : take (trees.len + 1) (set trees.ends trees.len v) ≡ ends_of 0 (s.policy ++ (t ∷ []))
    ends_with =
        let x : 0 + rows_of s.policy + size t ≡ v = omega (arith, s.used_is, as_sized) in
        rw (add-one trees.len, ends_of_end t 0 s.policy, ← s.ends_are, x)
        (take-suc-set trees.ends trees.len v (omega (arith, s.long_ends, s.all_done)))

    -- The kind and the end are bytes.
    kind_is_byte : t.kind % 256 ≡ t.kind
    kind_is_byte = mod-eq_of_lt (omega (arith, below_found 16 c next {b = t.kind} {k = m} z))

    end_low : v ≤ 64
    end_low = omega (arith, node_room 8 c used m t.root j y, u)

    end_is_byte : v % 256 ≡ v
    end_is_byte = mod-eq_of_lt (omega (arith, end_low))

    with_one : (nodes₁ : List ℕ) → flats c nodes₁ 0 v ≡ flats c nodes 0 used ++ flatten 0 (alone t.root) → TreesRead c at count nodes₁ (with_tree trees t.kind v) j v (done + 1)
    unfolding with_tree
    with_one nodes₁ r = rw (kind_is_byte, end_is_byte) (record {
      policy = s.policy ++ (t ∷ []);
      all_done = omega (arith, s.all_done);
      whole = s.whole ∙ rest_is;
      many = omega (arith, s.many, length-append s.policy (t ∷ []));
      few = omega (arith, s.all_done);
      long_kinds = length-set trees.kinds trees.len t.kind ∙ s.long_kinds;
      long_ends = length-set trees.ends trees.len v ∙ s.long_ends;
      kinds_are = kinds_with;
      ends_are = ends_with;
      used_is = omega (arith, s.used_is, as_sized, rows_of_end t s.policy);
      rows_are = r ∙ rw s.rows_are (sym (all_rows_end t s.policy));
      high = still_high trees.ends trees.len v end_low s.high;
    })

  -- One tree more is to be read.
  module _ (h : done < count) (r : Result Number Refusal) (e : number r ≡ below 16 c next) where
    pub kind_refused : (w u : Refusal) → r ≡ Err w → u ≡ record { question = question.Charter; at = w.at } → LoadedPolicy c (trees_to_end count c at) nodes (Err u)
    unfolding after and_then
    kind_refused w u f k =
        let z = sym (rw f at e) in
        not_read c at count nodes u (number_of w.question) w.at (s.whole ∙ rw (trees_step (count - trees.len) c used next (omega (arith, s.all_done)), z)) k

    module _ (k : Number) (f : r ≡ Ok k) (nodes₁ : List ℕ) (b : Result Number Refusal)
        (l : Loaded c (node_read (read_node 8 c used k.next)) 0 used nodes nodes₁ b) where
      pub tree_refused : (w u : Refusal) → b ≡ Err w → u ≡ record { question = question.Charter; at = w.at } → LoadedPolicy c (trees_to_end count c at) nodes₁ (Err u)
      unfolding after and_then
      tree_refused w u g i =
          let z = sym (rw f at e) in
          let y = root_not used (read_node 8 c used k.next) {q = number_of w.question} {p = w.at} (rw g at l.answer) in
          not_read c at count nodes₁ u (number_of w.question) w.at (s.whole ∙ rw (trees_step (count - trees.len) c used next (omega (arith, s.all_done)), z, y)) i

      pub tree_read : (n : Number) (w : Trees) → b ≡ Ok n → w ≡ with_tree trees k.value n.value → count ≤ 16
          → TreesRead c at count nodes₁ w n.next n.value (done + 1)
      tree_read n w g i few =
          let x = root_got used (read_node 8 c used k.next) {v = n.value} {k = n.next} (rw g at l.answer) in
          let z : below 16 c next ≡ got k.value k.next = sym (rw f at e) in
          rw i (with_one h few (record { kind = k.value; root = x.root }) k.next n.value n.next z x.is x.count nodes₁
          (first_rows 8 c used k.next 0 nodes nodes₁ b l x.root n.value n.next x.is x.count))

pub room_for_one : (c : List ℕ) (at count : ℕ) (nodes : List ℕ) (trees : Trees) (next used done : ℕ) → TreesRead c at count nodes trees next used done
    → done < count → count ≤ 16 → trees.len < 16
room_for_one c at count nodes trees next used done s h few = omega (arith, s.all_done)

pub ruleset tree_steps = (rules, room_for_one, none_read, all_read, left_over_lem, kind_refused, tree_refused, tree_read)

-- The count of trees, and then the trees.
module _ (c : List ℕ) (r : Result Number Refusal) (e : number r ≡ below 17 c 0) where
  pub policy_refused : (nodes : List ℕ) (w u : Refusal) → r ≡ Err w → u ≡ record { question = question.Charter; at = w.at } → LoadedPolicy c (read_policy c) nodes (Err u)
  unfolding read_policy_in as_eleven and_then
  policy_refused nodes w u f k = unread {why = record { question = question.Charter; at = w.at }} refused_first (rw k)
    where
      refused_first : read_policy c ≡ refused 11 w.at
      refused_first = let z = sym (rw f at e) in rw z

  module _ (n : Number) (f : r ≡ Ok n) where
    pub policy_read : (nodes : List ℕ) (w : Result PolicyAt Refusal) → LoadedPolicy c (trees_to_end n.value c n.next) nodes w → LoadedPolicy c (read_policy c) nodes w
    unfolding read_policy_in trees_to_end and_then
    policy_read nodes w l = rw trees_follow l
      where
        trees_follow : read_policy c ≡ trees_to_end n.value c n.next
        trees_follow = let z = sym (rw f at e) in rw z

    pub few_trees : n.value ≤ 16
    few_trees = omega (arith, below_found 17 c 0 {b = n.value} {k = n.next} (rw f at (sym e)))

pub ruleset policy_steps = (rules, policy_refused, policy_read, few_trees)
