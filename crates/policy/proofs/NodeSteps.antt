-- How a node and the nodes below it are read into the table: a node is stored and then its children are read, and children are
-- read one after another. What is then in the table is what was there before, and the nodes in reading order.
use Prim.Native.Nat.{ℕ, zero, suc, ◌+◌, ◌-◌, ◌*◌, ◌<◌, ◌≤◌}
use mathlib.Core.List.{List, [], ◌∷◌, ◌++◌, append_assoc, append-nil}
use mathlib.Core.Path.{◌≡◌, refl, sym, ap, ◌∙◌}
use native.Mathlib.Numerals.{sub-one}
use native.Mathlib.Nat.{add-zero}
use native.Mathlib.Omega.{arith}
use borrow.Author.Rules.{rules}
use borrow.Author.Tests.{lt-ltb, le-ltb}
use lib.Dec.{ltb}
use lib.ListN.{length, length-append}
use Rattle.std.specs.Prelude.{Result, Ok, Err}
use Rattle.reading.proofs.Parts.{never}
use Rattle.reading.specs.Read.{Read, got, refused, and_then, byte_at, below}
use Rattle.reading.specs.Questions.{number_of}
use Rattle.reading.specs.Told.{number}
use Rattle.reading.specs.declared.Number.{Number}
use Rattle.reading.specs.declared.Question.TheVariants as question
use Rattle.reading.specs.declared.Refusal.{Refusal}
use Rattle.policy.proofs.StoreLaws.{stored_rows}
use Rattle.policy.specs.Syntax.{Permissions, Node, Nodes, none, more, alone, heads, heads_of}
use Rattle.policy.specs.Reading.{must, children, read_permissions, read_node_in, read_node}
use Rattle.policy.specs.Rows.{with_node, flat_of, flats, flatten}
use Rattle.policy.specs.Loads.{Opened, read_opening, opening_read, OpeningReadFits, OpeningFits, node_read, children_read, rows_only, Loaded}
use Rattle.policy.specs.declared.Opening.{Opening}

-- The first of some nodes, and the rest.
pub more_heads : (g : ℕ) (p : Permissions) (below rest : Nodes) → length (heads_of (more g p below rest)) ≡ length (heads_of (more g p below none)) + length (heads_of rest)
unfolding heads_of
more_heads g p below rest =
    let a = length-append (heads_of below) (heads_of rest) in
    let b : length (heads_of below ++ []) ≡ length (heads_of below) = ap length (append-nil (heads_of below)) in
    omega arith

more_rows : (d g : ℕ) (p : Permissions) (below rest : Nodes) → flatten d (more g p below rest) ≡ flatten d (more g p below none) ++ flatten d rest
unfolding flatten
more_rows d g p below rest = rw (append-nil (flatten (d + 1) below))

-- A node that was read, where only the number of rows was kept.
pub record Root (x : Read Node) (used v k : ℕ) : Type 0 where
  pub root : Node
  pub is : x ≡ got root k
  pub count : v ≡ used + length (heads_of (alone root))

pub root_got : (used : ℕ) (x : Read Node) {v k : ℕ} → got v k ≡ rows_only used (node_read x) → Root x used v k
unfolding rows_only node_read
root_got used (got n m) {v} {k} h =
    let z : m ≡ k = cc in let y : v ≡ used + length (heads_of (alone n)) = cc in record { root = n; is = ap (λ (i : ℕ). got n i) z; count = y }
root_got used (refused q p) h = never (sym h)

pub root_not : (used : ℕ) (x : Read Node) {q p : ℕ} → refused q p ≡ rows_only used (node_read x) → x ≡ refused q p
unfolding rows_only node_read
root_not used (got n m) h = never h
root_not used (refused a b) {q} {p} h = let v : a ≡ q = cc in let w : b ≡ p = cc in rw (v, w)

-- Nothing is in the table of what was refused.
not_loaded : {c : List ℕ} {read : Read Nodes} (d used : ℕ) {nodes nodes' : List ℕ} (r : Result Number Refusal) (q p : ℕ)
    → read ≡ refused q p → number r ≡ refused q p → Loaded c read d used nodes nodes' r
unfolding rows_only
not_loaded d used r q p e h = record { answer = rw (e, h); rows = λ ns next k. never (sym e ∙ k) }

-- Children, one after another.
pub children_suc : (level : ℕ) (c : List ℕ) (n used at : ℕ) → children_read level c (suc n) used at
    ≡ and_then (read_node level c used at) (λ first m.
    and_then (children_read level c n (used + length (heads first)) m) (λ rest k. got (more first.group first.permissions first.below rest) k))
unfolding children_read children
children_suc level c n used at = refl

children_step : (level : ℕ) (c : List ℕ) (n used at : ℕ) → (n ≡ 0 → ⊥) → children_read level c n used at
    ≡ and_then (read_node level c used at) (λ first m.
    and_then (children_read level c (n - 1) (used + length (heads first)) m) (λ rest k. got (more first.group first.permissions first.below rest) k))
children_step level c zero used at h = absurd (h refl)
children_step level c (suc n) used at h = rw (sub-one (suc n)) (children_suc level c n used at)

first_child : (level : ℕ) (c : List ℕ) (count used at : ℕ) → (count ≡ 0 → ⊥) → (root : Node) (v k : ℕ) → read_node level c used at ≡ got root k
    → v ≡ used + length (heads_of (alone root)) → children_read level c count used at
    ≡ and_then (children_read level c (count - 1) v k) (λ rest m. got (more root.group root.permissions root.below rest) m)
unfolding and_then heads
first_child level c count used at h root v k e a = children_step level c count used at h ∙ rw (e, a)

pub first_rows : (level : ℕ) (c : List ℕ) (used at d : ℕ) (nodes nodes₁ : List ℕ) (r : Result Number Refusal) → Loaded c (node_read (read_node level c used at)) d used nodes nodes₁ r
    → (root : Node) (v k : ℕ) → read_node level c used at ≡ got root k → v ≡ used + length (heads_of (alone root))
    → flats c nodes₁ 0 v ≡ flats c nodes 0 used ++ flatten d (alone root)
unfolding node_read
first_rows level c used at d nodes nodes₁ r l root v k e a = rw a (l.rows (alone root) k (rw e))

-- The first's rows, and then those of the rest.
module _ (c : List ℕ) (d used v : ℕ) (nodes nodes₁ nodes₂ : List ℕ) (root : Node) (r : Result Number Refusal) (a : v ≡ used + length (heads_of (alone root)))
    (b : flats c nodes₁ 0 v ≡ flats c nodes 0 used ++ flatten d (alone root)) where
  all_heads : (rest : Nodes) → used + length (heads_of (more root.group root.permissions root.below rest)) ≡ v + length (heads_of rest)
  unfolding alone
  all_heads rest = omega (arith, more_heads root.group root.permissions root.below rest)

  all_rows_lem : (rest : Nodes) → flats c nodes₂ 0 (v + length (heads_of rest)) ≡ flats c nodes₁ 0 v ++ flatten d rest
      → flats c nodes₂ 0 (used + length (heads_of (more root.group root.permissions root.below rest)))
      ≡ flats c nodes 0 used ++ flatten d (more root.group root.permissions root.below rest)
  unfolding alone
  all_rows_lem rest e =
      rw (all_heads rest, e, b, more_rows d root.group root.permissions root.below rest)
      (append_assoc (flats c nodes 0 used) (flatten d (alone root)) (flatten d rest))

  joined : (y : Read Nodes) → Loaded c y d v nodes₁ nodes₂ r
      → Loaded c (and_then y (λ rest m. got (more root.group root.permissions root.below rest) m)) d used nodes nodes₂ r
  unfolding and_then rows_only
  joined (got rest m) l = record {
    answer = rw (all_heads rest) l.answer;
    rows = λ ns next e. let z : more root.group root.permissions root.below rest ≡ ns = nodes_of e in rw (← z) (all_rows_lem rest (l.rows rest m refl));
  }
    where
      nodes_of : {ns : Nodes} {next : ℕ} → got (more root.group root.permissions root.below rest) m ≡ got ns next
          → more root.group root.permissions root.below rest ≡ ns
      nodes_of e = cc
  joined (refused q p) l = record { answer = l.answer; rows = λ ns next e. never e }

module _ (level : ℕ) (c : List ℕ) (count used at d : ℕ) where
  no_child : (nodes : List ℕ) → count ≡ 0
      → Loaded c (children_read level c count used at) d used nodes nodes (Ok (record { value = used; next = at }))
  unfolding children_read children rows_only heads_of flatten
  no_child nodes e = record {
    answer = rw (e, add-zero used);
    rows = λ ns next k. let z : none ≡ ns = nodes_of (rw e at k) in rw (← z, add-zero used, append-nil (flats c nodes 0 used));
  }
    where
      nodes_of : {ns : Nodes} {next : ℕ} → got none at ≡ got ns next → none ≡ ns
      nodes_of k = cc

  module _ (h : count ≡ 0 → ⊥) (nodes nodes₁ : List ℕ) (r : Result Number Refusal) (l : Loaded c (node_read (read_node level c used at)) d used nodes nodes₁ r) where
    child_refused : (q : Refusal) → r ≡ Err q → Loaded c (children_read level c count used at) d used nodes nodes₁ r
    unfolding and_then
    child_refused q f =
        not_loaded d used r (number_of q.question) q.at
        (children_step level c count used at h ∙ rw (root_not used (read_node level c used at) {q = number_of q.question} {p = q.at} (rw f at l.answer)))
        (rw f)

    then_rest : (n : Number) (nodes₂ : List ℕ) (r₂ : Result Number Refusal) → r ≡ Ok n
        → Loaded c (children_read level c (count - 1) n.value n.next) d n.value nodes₁ nodes₂ r₂
        → Loaded c (children_read level c count used at) d used nodes nodes₂ r₂
    then_rest n nodes₂ r₂ f m =
        let x = root_got used (read_node level c used at) {v = n.value} {k = n.next} (rw f at l.answer) in
        rw (first_child level c count used at h x.root n.value n.next x.is x.count)
        (joined c d used n.value nodes nodes₁ nodes₂ x.root r₂ x.count
        (first_rows level c used at d nodes nodes₁ r l x.root n.value n.next x.is x.count)
        (children_read level c (count - 1) n.value n.next) m)

-- Where the loop over children stands, of which `done` are loaded: once the others are loaded too, all are.
pub record Loading (level : ℕ) (c : List ℕ) (count used at d : ℕ) (nodes₀ : List ℕ) (done rows next : ℕ) (nodes : List ℕ) : Type 0 where
  pub whole : (nodes₂ : List ℕ) (r : Result Number Refusal) → Loaded c (children_read level c (count - done) rows next) d rows nodes nodes₂ r
      → Loaded c (children_read level c count used at) d used nodes₀ nodes₂ r
  pub same : length nodes ≡ 384

pub all_left : (level : ℕ) (c : List ℕ) (count used at d : ℕ) (nodes : List ℕ) → length nodes ≡ 384
    → Loading level c count used at d nodes 0 used at nodes
all_left level c count used at d nodes l = let z : count - 0 ≡ count = omega arith in record { whole = λ nodes₂ r h. rw z at h; same = l }

module _ (level : ℕ) (c : List ℕ) (count used at d : ℕ) (nodes₀ : List ℕ) (done rows next : ℕ) (nodes : List ℕ)
    (s : Loading level c count used at d nodes₀ done rows next nodes) where
  pub none_left : count ≤ done → Loaded c (children_read level c count used at) d used nodes₀ nodes (Ok (record { value = rows; next = next }))
  none_left h = s.whole nodes _ (no_child level c (count - done) rows next d nodes (omega arith))

  module _ (h : done < count) (nodes₁ : List ℕ) (r : Result Number Refusal) (l : Loaded c (node_read (read_node level c rows next)) d rows nodes nodes₁ r) where
    some_left : count - done ≡ 0 → ⊥
    some_left e = omega arith

    pub one_refused : (q : Refusal) → r ≡ Err q → Loaded c (children_read level c count used at) d used nodes₀ nodes₁ r
    one_refused q f = s.whole nodes₁ r (child_refused level c (count - done) rows next d some_left nodes nodes₁ r l q f)

    pub one_loaded : (n : Number) → r ≡ Ok n → length nodes₁ ≡ length nodes
        → Loading level c count used at d nodes₀ (done + 1) n.value n.next nodes₁
    one_loaded n f k =
        let z : count - (done + 1) ≡ count - done - 1 = omega arith in
        record {
          whole = λ nodes₂ r₂ m. s.whole nodes₂ r₂ (then_rest level c (count - done) rows next d some_left nodes nodes₁ r l n nodes₂ r₂ f (rw z at m));
          same = k ∙ s.same;
        }

pub ruleset child_steps = (rules, all_left, none_left, one_refused, one_loaded)

-- A node: without its children first.
abbrev opened : ℕ → Permissions → ℕ → Opened
opened g p n = record { head = record { group = g; permissions = p }; children = n }

opening_first : {B : Type 0} (c : List ℕ) (at : ℕ) (f : ℕ → Permissions → ℕ → ℕ → Read B)
    → and_then (below 64 c at) (λ g m. and_then (read_permissions c m) (λ p k. and_then (byte_at c k) (λ n e. f g p n e)))
    ≡ and_then (read_opening c at) (λ o e. f o.head.group o.head.permissions o.children e)
unfolding read_opening and_then
opening_first c at f = group_of (below 64 c at)
  where
    count_of_lem : (g : ℕ) (p : Permissions) (x : Read ℕ) → and_then x (λ n e. f g p n e)
        ≡ and_then (and_then x (λ n e. got (opened g p n) e)) (λ o e. f o.head.group o.head.permissions o.children e)
    count_of_lem g p (got n e) = refl
    count_of_lem g p (refused q i) = refl

    permissions_of_lem : (g : ℕ) (x : Read Permissions) → and_then x (λ p k. and_then (byte_at c k) (λ n e. f g p n e))
        ≡ and_then (and_then x (λ p k. and_then (byte_at c k) (λ n e. got (opened g p n) e)))
        (λ o e. f o.head.group o.head.permissions o.children e)
    permissions_of_lem g (got p k) = count_of_lem g p (byte_at c k)
    permissions_of_lem g (refused q i) = refl

    group_of : (x : Read ℕ) → and_then x (λ g m. and_then (read_permissions c m) (λ p k. and_then (byte_at c k) (λ n e. f g p n e)))
        ≡ and_then (and_then x (λ g m. and_then (read_permissions c m) (λ p k. and_then (byte_at c k) (λ n e. got (opened g p n) e))))
        (λ o e. f o.head.group o.head.permissions o.children e)
    group_of (got g m) = permissions_of_lem g (read_permissions c m)
    group_of (refused q i) = refl

pub node_suc : (level : ℕ) (c : List ℕ) (used at : ℕ) → read_node (suc level) c used at
    ≡ must (ltb used 64) at (and_then (read_opening c at) (λ o e.
    and_then (children_read level c o.children (used + 1) e) (λ ns end. got (record { group = o.head.group; permissions = o.head.permissions; below = ns }) end)))
unfolding read_node_in children_read
node_suc level c used at = ap (λ (x : Read Node). must (ltb used 64) at x) (opening_first c at (λ g p n e.
    and_then (children (λ u i. read_node level c u i) n (used + 1) e) (λ ns end. got (record { group = g; permissions = p; below = ns }) end)))

node_step : (level : ℕ) (c : List ℕ) (used at : ℕ) → (level ≡ 0 → ⊥) → read_node level c used at
    ≡ must (ltb used 64) at (and_then (read_opening c at) (λ o e.
    and_then (children_read (level - 1) c o.children (used + 1) e) (λ ns end. got (record { group = o.head.group; permissions = o.head.permissions; below = ns }) end)))
node_step zero c used at h = absurd (h refl)
node_step (suc level) c used at h = rw (sub-one (suc level)) (node_suc level c used at)

-- The node's row, and then those of the nodes below it.
module _ (c : List ℕ) (d used : ℕ) (nodes nodes₁ nodes₂ : List ℕ) (r : Result Number Refusal) (o : Opening) (long : length nodes ≡ 384) (low : used < 64) (fits : OpeningFits d o)
    (stored : nodes₁ ≡ with_node nodes used o.node) where
  abbrev node : Nodes → Node
  node ns = record { group = (flat_of c o.node).head.group; permissions = (flat_of c o.node).head.permissions; below = ns }

  node_heads : (ns : Nodes) → used + length (heads_of (alone (node ns))) ≡ used + 1 + length (heads_of ns)
  unfolding alone heads_of
  node_heads ns = let z : length (heads_of ns ++ []) ≡ length (heads_of ns) = ap length (append-nil (heads_of ns)) in omega arith

  own_row : flats c nodes₁ 0 (used + 1) ≡ flats c nodes 0 used ++ (record { head = (flat_of c o.node).head; depth = d } ∷ [])
  unfolding flat_of
  own_row = rw stored (stored_rows nodes used o.node long low c fits.fits ∙ at_its_depth)
    where
      at_its_depth : flats c nodes 0 used ++ (flat_of c o.node ∷ []) ≡ flats c nodes 0 used ++ (record { head = (flat_of c o.node).head; depth = d } ∷ [])
      at_its_depth = ap (λ (k : ℕ). flats c nodes 0 used ++ (record { head = (flat_of c o.node).head; depth = k } ∷ [])) depth_is
        where
          depth_is : (flat_of c o.node).depth ≡ d
          depth_is = fits.at_depth

  node_rows : (ns : Nodes) → flats c nodes₂ 0 (used + 1 + length (heads_of ns)) ≡ flats c nodes₁ 0 (used + 1) ++ flatten (d + 1) ns
      → flats c nodes₂ 0 (used + length (heads_of (alone (node ns)))) ≡ flats c nodes 0 used ++ flatten d (alone (node ns))
  unfolding alone flatten
  node_rows ns e =
      rw (node_heads ns, e, own_row, append-nil (flatten (d + 1) ns))
      (append_assoc (flats c nodes 0 used) (record { head = (flat_of c o.node).head; depth = d } ∷ []) (flatten (d + 1) ns))

  nested : (y : Read Nodes) → Loaded c y (d + 1) (used + 1) nodes₁ nodes₂ r → Loaded c (node_read (and_then y (λ ns end. got (node ns) end))) d used nodes nodes₂ r
  unfolding and_then node_read rows_only
  nested (got ns m) l = record {
    answer = rw (node_heads ns) l.answer;
    rows = λ ms next e. let z : alone (node ns) ≡ ms = nodes_of e in rw (← z) (node_rows ns (l.rows ns m refl));
  }
    where
      nodes_of : {ms : Nodes} {next : ℕ} → got (alone (node ns)) m ≡ got ms next → alone (node ns) ≡ ms
      nodes_of e = cc
  nested (refused q p) l = record { answer = l.answer; rows = λ ns next e. never e }

module _ (level : ℕ) (c : List ℕ) (used at : ℕ) (nodes : List ℕ) where
  pub too_deep : (d : ℕ) (w : Refusal) → level ≡ 0 → w ≡ record { question = question.Charter; at = at }
      → Loaded c (node_read (read_node level c used at)) d used nodes nodes (Err w)
  unfolding read_node_in node_read
  too_deep d w e k = not_loaded d used (Err w) 11 at (rw e) (rw k)

  module _ (h : level ≡ 0 → ⊥) where
    pub too_many : (d : ℕ) (w : Refusal) → 64 ≤ used → w ≡ record { question = question.Charter; at = at }
        → Loaded c (node_read (read_node level c used at)) d used nodes nodes (Err w)
    unfolding must node_read
    too_many d w l k = not_loaded d used (Err w) 11 at (rw (node_step level c used at h, le-ltb used 64 l)) (rw k)

    module _ (low : used < 64) (b : Result Opening Refusal) (e : opening_read c b ≡ read_opening c at) where
      pub opening_refused : (d : ℕ) (w : Refusal) → b ≡ Err w
          → Loaded c (node_read (read_node level c used at)) d used nodes nodes (Err w)
      unfolding must node_read and_then
      opening_refused d w f =
          let z = sym (rw f at e) in
          not_loaded d used (Err w) (number_of w.question) w.at (rw (node_step level c used at h, lt-ltb used 64 low, z)) refl

      pub node_loaded : (o : Opening) (nodes₁ nodes₂ : List ℕ) (r : Result Number Refusal) → level ≤ 8 → length nodes ≡ 384 → b ≡ Ok o → OpeningReadFits (8 - level) b
          → nodes₁ ≡ with_node nodes used o.node
          → Loaded c (children_read (level - 1) c o.children (used + 1) o.next) (8 - (level - 1)) (used + 1) nodes₁ nodes₂ r
          → Loaded c (node_read (read_node level c used at)) (8 - level) used nodes nodes₂ r
      unfolding must and_then
      node_loaded o nodes₁ nodes₂ r m long f fits s l =
          let z = sym (rw f at e) in
          let y : OpeningFits (8 - level) o = rw f at fits in
          let x : 8 - (level - 1) ≡ 8 - level + 1 = omega arith in
          rw (node_step level c used at h, lt-ltb used 64 low, z)
          (nested c (8 - level) used nodes nodes₁ nodes₂ r o long low y s (children_read (level - 1) c o.children (used + 1) o.next) (rw x at l))

-- What the calls ask.
pub opening_small : (d : ℕ) (b : Result Opening Refusal) (o : Opening) → b ≡ Ok o → OpeningReadFits d b → o.children < 256
opening_small d b o f fits = let y : OpeningFits d o = rw f at fits in y.few

pub descends : (level n t : ℕ) → (level ≡ 0 → ⊥) → n < 256 → level * 300 ≡ t → (level - 1) * 300 + n + 1 < t
descends level n t h k e = omega arith

pub ruleset root_steps = (rules, too_deep, too_many, opening_refused, node_loaded, opening_small, descends)
