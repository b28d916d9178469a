-- The covering of an entry, step by step: each flag, each group disclosed to, and the first of them that is not covered.
use Prim.Native.Nat.{ℕ, ◌+◌, ◌-◌, ◌<◌, ◌≤◌}
use mathlib.Core.Path.{◌≡◌, refl, sym, ap, ◌∙◌}
use mathlib.Core.List.{List, [], ◌∷◌, ◌++◌, map, append-nil, map-append}
use mathlib.Core.Bool.{Bool, true, false, cond, not}
use native.Mathlib.Omega.{arith}
use native.Mathlib.Numerals.{add-one}
use lib.ListN.{length, take, drop, set, get_or, length-set, length-map, drop_of_length-le}
use lib.Seq.{take-suc-set, append_snoc}
use lib.Dec.{ltb, leb, eqb}
use borrow.Author.Rules.{rules}
use borrow.Author.Tests.{eq-eqb, ne_eqb, lt-ltb, le-ltb, ltb-false, lt-leb, not-true, not-false}
use Rattle.inference.specs.Lists.{every, any, only, rising}
use Rattle.inference.specs.Counts.{fin, unlimited, at_most}
use Rattle.inference.specs.Interface.{Permission, reading, writing, accessing}
use Rattle.inference.specs.Rows.{is_set, cell, group_count, group_at, path_at, purpose_at}
use Rattle.sharing.specs.Sums.{needed_at, sum_count}
use Rattle.interface.proofs.WriteLaws.{rising_next, rising_done}
use Rattle.policy.specs.Syntax.{has_bit}
use Rattle.policy.specs.Loads.{Bounded, start_of}
use Rattle.policy.specs.declared.Trees.{Trees}
use Rattle.policy.specs.declared.Span.{Span}
use Rattle.fit.specs.declared.Flag.{Flag}
use Rattle.fit.specs.declared.Flag.TheVariants.{Unneeded, Granted, Lacking}
use Rattle.fit.specs.declared.Flags.{Flags}
use Rattle.fit.specs.declared.Sum.{Sum}
use Rattle.fit.specs.declared.Sums.{Sums}
use Rattle.fit.specs.declared.Covering.{Covering}
use Rattle.fit.specs.Satisfies.{Verdict, flag, counts, holds}
use Rattle.fit.proofs.GrantSteps.{one_left}
use Rattle.std.specs.Prelude.{Option as Answer, Some, None, IfSome}
use Rattle.std.specs.Option.{unwrap_or}
use Rattle.fit.specs.Uncovered.{permission_of, first, or_none}
use mathlib.Core.Option.{some}
use Rattle.fit.specs.declared.Permission.{Permission as Told}
use Rattle.fit.specs.declared.Permission.TheVariants.{Read, Write, Access, Disclose}
use Rattle.fit.specs.Givers.{given_at, granting_rows, joined_at, givers_in, index_of}
use Rattle.fit.specs.Covers.{flag_verdicts, is_lacking, flags_then, sum_verdict, sum_verdicts, verdicts_of, all_given, flag_given, flag_at, flags_at, place_verdict, places_from, verdicts_at, told_in, lacking_in, tree_rows_of, span_for, verdicts_for, CoveringIs}

unset : (n : ℕ) → n ≡ 0 → is_set n ≡ false
unfolding is_set
unset n e = rw (eq-eqb n 0 e) refl

is_set_lem : (n : ℕ) → (n ≡ 0 → ⊥) → is_set n ≡ true
unfolding is_set
is_set_lem n e = rw (ne_eqb n 0 e) refl

-- a flag
module _ (value : ℕ) (nodes rows : List ℕ) (needed : ℕ) where
  pub flag_spared : needed ≡ 0 → (c : List ℕ) (p : Permission) → flag_verdicts p Unneeded ≡ flag_at p value c nodes rows needed
  unfolding flag_verdicts flag_at
  flag_spared e c p = rw (unset needed e) refl

  module _ (b : Bool) (e : needed ≡ 0 → ⊥) (h : (c : List ℕ) → b ≡ any (λ row. has_bit value (given_at c nodes row).map) rows) where
    pub flag_granted_lem : b ≡ true → (c : List ℕ) (p : Permission) → flag_verdicts p Granted ≡ flag_at p value c nodes rows needed
    unfolding flag_verdicts flag_at flag_given
    flag_granted_lem f c p = rw (is_set_lem needed e, ← h c, f) refl

    pub flag_lacking : b ≡ false → (c : List ℕ) (p : Permission) → flag_verdicts p Lacking ≡ flag_at p value c nodes rows needed
    unfolding flag_verdicts flag_at flag_given
    flag_lacking f c p = rw (is_set_lem needed e, ← h c, f) refl

pub three_flags : (nodes rows table : List ℕ) (n k x y z : ℕ) (a b d : Flag)
    → x ≡ cell table n k 8 → ((c : List ℕ) (p : Permission) → flag_verdicts p a ≡ flag_at p 1 c nodes rows x)
    → y ≡ cell table n k 9 → ((c : List ℕ) (p : Permission) → flag_verdicts p b ≡ flag_at p 2 c nodes rows y)
    → z ≡ cell table n k 10 → ((c : List ℕ) (p : Permission) → flag_verdicts p d ≡ flag_at p 4 c nodes rows z)
    → (c : List ℕ) (rest : List Verdict) → flags_then (record { read = a; write = b; access = d }) rest ≡ flags_at c nodes rows table n k rest
unfolding flags_then flags_at
three_flags nodes rows table n k x y z a b d e f e' f' e'' f'' c rest = rw (← e, ← e', ← e'', f c reading, f' c writing, f'' c accessing) refl

map_snoc : (items : List Sum) (len : ℕ) (r : Sum) → map sum_verdict (take len items ++ (r ∷ [])) ≡ map sum_verdict (take len items) ++ (sum_verdict r ∷ [])
map_snoc items len r = map-append sum_verdict (take len items) (r ∷ [])

-- The groups at the places passed so far, and those left, give the whole.
pub record SumsSoFar (c nodes rows table sums : List ℕ) (n k m : ℕ) (items : List Sum) (len place : ℕ) : Type 0 where
  pub within : place ≤ m
  pub few : len ≤ place
  pub eight : m ≤ 8
  pub long : length items ≡ 8
  pub whole : map sum_verdict (take len items) ++ places_from place (m - place) c nodes rows table sums n k ≡ places_from 0 m c nodes rows table sums n k

pub sums_start : (c nodes rows table sums : List ℕ) (n k m : ℕ) (items : List Sum) → m ≤ 8 → length items ≡ 8 → SumsSoFar c nodes rows table sums n k m items 0 0
sums_start c nodes rows table sums n k m items h l = record { within = omega arith; few = omega arith; eight = h; long = l; whole = let z : m - 0 ≡ m = omega arith in rw z refl }

module _ (c nodes rows table sums : List ℕ) (n k m : ℕ) (items : List Sum) (len place : ℕ) (so : SumsSoFar c nodes rows table sums n k m items len place) where
  turn : place < m → (own : ℕ) → own ≡ cell table n k place → places_from place (m - place) c nodes rows table sums n k
      ≡ cond (is_set own) (place_verdict c nodes rows table sums n k place ∷ places_from (place + 1) (m - (place + 1)) c nodes rows table sums n k)
      (places_from (place + 1) (m - (place + 1)) c nodes rows table sums n k)
  unfolding places_from only
  turn here own e = rw (rising_next place m here, ← e) (split (is_set own) (only (λ i. is_set (cell table n k i)) (rising (place + 1) (m - (place + 1)))))
    where
      split : (b : Bool) (later : List ℕ) → map (place_verdict c nodes rows table sums n k) (cond b (place ∷ later) later)
          ≡ cond b (place_verdict c nodes rows table sums n k place ∷ map (place_verdict c nodes rows table sums n k) later) (map (place_verdict c nodes rows table sums n k) later)
      split true later = refl
      split false later = refl

  pub sums_next : place < m → (own : ℕ) → own ≡ cell table n k place → (own ≡ 0 → ⊥) → (needed group granted : ℕ) → needed ≡ needed_at sums table n k place
      → group ≡ group_at table n place → sum_count granted ≡ joined_at group c nodes rows
      → SumsSoFar c nodes rows table sums n k m (set items len (record { group = group; needed = needed; granted = granted })) (len + 1) (place + 1)
  unfolding sum_verdict
  sums_next here own e set needed group granted f g h =
      let r : Sum = record { group = group; needed = needed; granted = granted } in
      let told : sum_verdict r ≡ place_verdict c nodes rows table sums n k place = unfold place_verdict in rw (h, f, g) refl in
      record {
        within = omega arith;
        few = omega (arith, so.few);
        eight = so.eight;
        long = length-set items len r ∙ so.long;
        whole =
            rw (add-one, take-suc-set items len r (omega (arith, so.long, so.few, so.eight)))
            (ap (λ (l : List Verdict). l ++ places_from (place + 1) (m - (place + 1)) c nodes rows table sums n k) (map_snoc items len r)
            ∙ append_snoc (map sum_verdict (take len items)) (sum_verdict r) _
            ∙ ap (λ (v : Verdict). map sum_verdict (take len items) ++ (v ∷ places_from (place + 1) (m - (place + 1)) c nodes rows table sums n k)) told
            ∙ (rw (turn here own e, is_set_lem own set) at so.whole));
      }

  pub sums_spared : place < m → (own : ℕ) → own ≡ cell table n k place → own ≡ 0 → SumsSoFar c nodes rows table sums n k m items len (place + 1)
  sums_spared here own e none = record {
    within = omega arith;
    few = omega (arith, so.few);
    eight = so.eight;
    long = so.long;
    whole = rw (turn here own e, unset own none) at so.whole;
  }

  pub sums_room : place < m → len < length items
  sums_room here = omega (arith, so.long, so.few, so.eight)

  pub sums_end : m ≡ group_count table n → m ≤ place → sum_verdicts (record { items = items; len = len }) ≡ places_from 0 (group_count table n) c nodes rows table sums n k
  unfolding sum_verdicts places_from only
  sums_end is done =
      sym (append-nil (map sum_verdict (take len items)))
      ∙ (rw (rising_done place m done, is) at so.whole)

-- the length of an array of sums, from that of its image
pub unmapped : {B : Type 0} (f : Sum → B) (l : List Sum) (n : ℕ) → length (map f l) ≡ n → length l ≡ n
unmapped f l n e = sym (length-map l f) ∙ e

-- the first group of which more is needed than is granted
pub record ShortSoFar (items : List Sum) (i : ℕ) : Type 0 where
  pub same : lacking_in (map sum_verdict items) ≡ lacking_in (map sum_verdict (drop i items))

pub short_starts : (items : List Sum) → ShortSoFar items 0
short_starts items = record { same = refl }

module _ (s : Sums) (items : List Sum) (is : items ≡ take s.len s.items) (i : ℕ) (so : ShortSoFar items i) where
  all_of : lacking_in (sum_verdicts s) ≡ lacking_in (map sum_verdict (drop i items))
  unfolding sum_verdicts
  all_of = ap (λ (l : List Sum). lacking_in (map sum_verdict l)) (sym is) ∙ so.same

  pub short_end : length items ≤ i → told_in None ≡ lacking_in (sum_verdicts s)
  unfolding lacking_in first or_none
  short_end h = sym (rw (drop_of_length-le items {i = i} h) at all_of)

  module _ (here : i < length items) (d : Sum) (b : Bool)
      (e : b ≡ at_most (sum_count (get_or items i d).needed) (sum_count (get_or items i d).granted)) where
    pub short_here : not b ≡ true → told_in (Some (Disclose (get_or items i d).group)) ≡ lacking_in (sum_verdicts s)
    unfolding lacking_in first or_none sum_verdict holds permission_of
    short_here f = sym (rw (one_left items i d here, ← e, f) at all_of)

    pub short_next : not b ≡ false → ShortSoFar items (i + 1)
    unfolding lacking_in first or_none sum_verdict holds
    short_next f = record { same = rw (one_left items i d here, ← e, f) at so.same }

-- flags before groups
not_lacking : (flag : Flag) → is_lacking flag ≡ false → (p : Permission) (rest : List Verdict) → lacking_in (flag_verdicts p flag ++ rest) ≡ lacking_in rest
unfolding is_lacking flag_verdicts lacking_in first or_none holds
not_lacking Unneeded e p rest = refl
not_lacking Granted e p rest = refl
not_lacking Lacking e p rest = let z : ◌≡◌ {A = ℕ} 0 1 = cc in absurd (omega arith)

is_lacking_lem : (flag : Flag) → is_lacking flag ≡ true → (p : Permission) (rest : List Verdict) → some p ≡ lacking_in (flag_verdicts p flag ++ rest)
unfolding is_lacking flag_verdicts lacking_in first or_none holds permission_of
is_lacking_lem Unneeded e p rest = let z : ◌≡◌ {A = ℕ} 0 1 = cc in absurd (omega arith)
is_lacking_lem Granted e p rest = let z : ◌≡◌ {A = ℕ} 0 1 = cc in absurd (omega arith)
is_lacking_lem Lacking e p rest = refl

pub unneeded_not : (f : Flag) → f ≡ Unneeded → false ≡ is_lacking f
unfolding is_lacking
unneeded_not f e = rw e refl

pub granted_not : (f : Flag) → f ≡ Granted → false ≡ is_lacking f
unfolding is_lacking
granted_not f e = rw e refl

pub lacking_is : (f : Flag) → f ≡ Lacking → true ≡ is_lacking f
unfolding is_lacking
lacking_is f e = rw e refl

module _ (r : Covering) (a b d : Bool) where
  pub read_first : a ≡ is_lacking r.flags.read → a ≡ true → told_in (Some Read) ≡ lacking_in (verdicts_of r)
  unfolding verdicts_of flags_then
  read_first e h = is_lacking_lem r.flags.read (sym e ∙ h) reading _

  module _ (e : a ≡ is_lacking r.flags.read) (h : a ≡ false) (e' : b ≡ is_lacking r.flags.write) where
    pub write_first : b ≡ true → told_in (Some Write) ≡ lacking_in (verdicts_of r)
    unfolding verdicts_of flags_then
    write_first h' = is_lacking_lem r.flags.write (sym e' ∙ h') writing _ ∙ sym (not_lacking r.flags.read (sym e ∙ h) reading _)

    module _ (h' : b ≡ false) (e'' : d ≡ is_lacking r.flags.access) where
      pub access_first : d ≡ true → told_in (Some Access) ≡ lacking_in (verdicts_of r)
      unfolding verdicts_of flags_then
      access_first h'' =
          is_lacking_lem r.flags.access (sym e'' ∙ h'') accessing _ ∙ sym (not_lacking r.flags.write (sym e' ∙ h') writing _)
          ∙ sym (not_lacking r.flags.read (sym e ∙ h) reading _)

      pub groups_then : (p : Answer Told) → d ≡ false → told_in p ≡ lacking_in (sum_verdicts r.sums) → told_in p ≡ lacking_in (verdicts_of r)
      unfolding verdicts_of flags_then
      groups_then p h'' g =
          g ∙ sym (not_lacking r.flags.access (sym e'' ∙ h'') accessing _) ∙ sym (not_lacking r.flags.write (sym e' ∙ h') writing _)
          ∙ sym (not_lacking r.flags.read (sym e ∙ h) reading _)

-- the rows that were found are those of the path in the table's row, and of these the ones that grant for its purpose
pub covers : (c nodes rows granting path path' table sums : List ℕ) (n k start len purpose : ℕ) → path ≡ path' → purpose ≡ purpose_at table n
    → ((b : List ℕ) → rows ≡ givers_in b nodes path start len) → granting ≡ granting_rows purpose nodes rows
    → (a : Bool) → a ≡ every (λ row. ltb row 64) rows → (f : Flags)
    → ((b : List ℕ) (rest : List Verdict) → flags_then f rest ≡ flags_at b nodes granting table n k rest)
    → (s : Sums) → sum_verdicts s ≡ places_from 0 (group_count table n) c nodes granting table sums n k
    → CoveringIs c nodes (givers_in c nodes path' start len) table sums n k (record { reached = a; flags = f; sums = s })
unfolding all_given verdicts_of verdicts_at
covers c nodes rows granting path path' table sums n k start len purpose is for given grants a e f flags s g =
    let here : rows ≡ givers_in c nodes path' start len = given c ∙ ap (λ (p : List ℕ). givers_in c nodes p start len) is in
    record {
      reached = rw (← here) e;
      verdicts = rw (← here, ← for, ← grants) (flags c (sum_verdicts s) ∙ ap (flags_at c nodes granting table n k) g);
    }

-- A table of another length is never lent.
pub no_table : (c nodes rows table sums : List ℕ) (n k : ℕ) (r : Covering) → length nodes ≡ 384 → (length nodes ≡ 384 → ⊥)
    → CoveringIs c nodes rows table sums n k r
no_table c nodes rows table sums n k r e f = absurd (f e)

pub no_sums : (nodes : List ℕ) (r : Covering) → length nodes ≡ 384 → (length nodes ≡ 384 → ⊥) → r.sums.len ≤ 8
no_sums nodes r e f = absurd (f e)

-- in the rows of the kind's tree
module _ (trees : Trees) (kind : ℕ) where
  pub span_is : (r : Answer Span) (s : Span) → r ≡ tree_rows_of trees kind → s ≡ unwrap_or r (record { from = 0; to = 0 }) → s ≡ span_for trees kind
  unfolding tree_rows_of span_for
  span_is r s e f = f ∙ rw e (go (ltb (index_of kind (take trees.len trees.kinds)) trees.len) _ _)
    where
      go : (b : Bool) (x y : Span) → unwrap_or (cond b (Some x) None) y ≡ cond b x y
      go true x y = refl
      go false x y = refl

  pub span_low : (r : Answer Span) (s : Span) → IfSome r (λ t. t.to ≤ 64) → s ≡ unwrap_or r (record { from = 0; to = 0 }) → s.to ≤ 64
  span_low (Some t) s h e = rw e h
  span_low None s h e = rw e (omega arith)

pub covers_for : (c nodes : List ℕ) (trees : Trees) (table sums : List ℕ) (n k : ℕ) (s : Span) (r : Covering) → s ≡ span_for trees k
    → CoveringIs c nodes (givers_in c nodes (path_at table n) s.from (s.to - s.from)) table sums n k r
    → verdicts_of r ≡ verdicts_for c nodes trees table sums n k
unfolding verdicts_for
covers_for c nodes trees table sums n k s r e is = rw (← e) is.verdicts

-- a sum against a sum
any_count : (x : _) → at_most x unlimited ≡ true
unfolding at_most
any_count (fin n) = refl
any_count unlimited = refl

module _ (needed granted : ℕ) where
  pub sum_unlimited : 4000000 ≤ granted → true ≡ at_most (sum_count needed) (sum_count granted)
  unfolding sum_count
  sum_unlimited h = rw (le-ltb granted 4000000 h) (sym (any_count (sum_count needed)))

  pub sum_compared : granted < 4000000 → leb needed granted ≡ at_most (sum_count needed) (sum_count granted)
  unfolding sum_count at_most
  sum_compared h = rw (lt-ltb granted 4000000 h) (go (ltb needed 4000000) refl)
    where
      go : (b : Bool) → ltb needed 4000000 ≡ b → leb needed granted ≡ at_most (cond b (fin needed) unlimited) (fin granted)
      go true e = refl
      go false e = lt-leb needed granted (omega (arith, ltb-false needed 4000000 e))

pub ruleset cover_steps = (rules, flag_spared, flag_granted_lem, flag_lacking, three_flags, sums_start, sums_next, sums_spared, sums_room, sums_end, unmapped, short_starts, short_end, short_here, short_next, unneeded_not, granted_not, lacking_is, read_first, write_first, access_first, groups_then, covers, no_table, no_sums, span_is, span_low, covers_for, sum_unlimited, sum_compared)
