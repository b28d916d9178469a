-- Two bytes hold each sum of an accepted sheet's slack. What a class needs is unlimited or at most 4,096: an act discloses once, and a sheet
-- has at most 4,096 acts. What it is granted is unlimited or at most 32,760: its path has at most eight groups, and each count of a policy
-- that was read is at most 4,095 or unlimited.
use Prim.Native.Nat.{ℕ, zero, suc, ◌+◌, ◌*◌, ◌<◌, ◌≤◌}
use mathlib.Core.Bool.{Bool, true, false, cond, ◌&&◌, ◌||◌}
use mathlib.Core.List.{List, [], ◌∷◌, ◌++◌, map}
use mathlib.Core.Option.{some}
use mathlib.Core.Path.{◌≡◌, refl}
use native.Mathlib.Omega.{arith}
use lib.Dec.{eqb, leb}
use lib.ListN.{length}
use borrow.Author.Tests.{leb-true}
use Rattle.reading.specs.Forms.{member}
use Rattle.reading.specs.Syntax.{Sheet}
use Rattle.reading.proofs.FormLaws.{both_true}
use Rattle.reading.proofs.Parts.{Every}
use Rattle.reading.proofs.TreeLaws.{SheetParts, sheet_parts}
use Rattle.needs.specs.declared.Need.{Need}
use Rattle.needs.specs.declared.Need.TheVariants.{Nothing, Read as Reading, Write, Access, Disclose}
use Rattle.inference.specs.Acts.{Component, Act, Located, acts_of, located}
use Rattle.inference.specs.Counts.{Count, fin, unlimited, ◌⊕◌, repeatedly, count_number}
use Rattle.inference.specs.Interface.{
  Disclosure,
  Entry,
  entry_of,
  entries_of,
  interface,
  Permission,
  reading,
  writing,
  accessing,
  disclosing,
  flagged,
  permissions,
  required_of,
  count_in,
  needed_by,
  needed,
}
use Rattle.inference.specs.Lists.{every, gather}
use Rattle.inference.specs.Needs.{need_of, disclosures, weigh, total, disclosed}
use Rattle.inference.proofs.ClassLaws.{needed_append}
use Rattle.inference.proofs.KindLaws.{all_kinds_needed}
use Rattle.inference.proofs.RequiredLaws.{listed_acts}
use Rattle.interface.proofs.Alls.{All, done, also, all_map, all_append}
use Rattle.interface.proofs.ByteLaws.{interface_small}
use Rattle.interface.proofs.SizeLaws.{acts_in, acts_few}
use Rattle.policy.specs.Reading.{is_count}
use Rattle.policy.specs.Syntax.{Granted, Head, Nodes, Tree, alone, bit_at}
use Rattle.policy.proofs.CountLaws.{in_counts, ListFits, Lists, lists_none, lists_more, AllLists, all_none, all_more, policy_fits}
use Rattle.fit.specs.Grants.{reached_among, reached, tree_for, reached_in, reached_for, no_permissions, only_for, for_purpose, granting_to, given_by, stored_count, listed, joined, count_granted}
use Rattle.fit.specs.Satisfies.{Verdict, flag, counts, verdict_of, covering}
use Rattle.service.specs.Questions.{passed, Accepted, judged}
use Rattle.service.proofs.FirstLaws.{passed_reads}
use Rattle.service.proofs.PassedLaws.{passed_policy}
use Rattle.slack.specs.Storable.{Storable, storable_none, storable_flag, storable_counts}

-- A count that is unlimited or at most n.
unfoldable pub UpTo : ℕ → Count → Type 0
UpTo n (fin m) = m ≤ n
UpTo n unlimited = Unit {0}

up_nothing : (n : ℕ) → UpTo n (fin 0)
unfolding UpTo
up_nothing n = omega arith

up_more : (m n : ℕ) (x : Count) → m ≤ n → UpTo m x → UpTo n x
unfolding UpTo
up_more m n (fin k) h u = omega arith
up_more m n unlimited h u = tt

up_join : (m n k : ℕ) (x y : Count) → m + n ≤ k → UpTo m x → UpTo n y → UpTo k (x ⊕ y)
unfolding UpTo ◌⊕◌
up_join m n k (fin i) (fin j) h u v = omega arith
up_join m n k (fin i) unlimited h u v = tt
up_join m n k unlimited (fin j) h u v = tt
up_join m n k unlimited unlimited h u v = tt

up_number : (n : ℕ) (x : Count) → n < 65536 → UpTo n x → count_number x < 65536
unfolding UpTo count_number
up_number n (fin k) h u = omega arith
up_number n unlimited h u = omega arith

-- An act discloses data of a kind to a group once at most; so acts disclose as often at most as they are many.
once : (k h : ℕ) (n : Need) → disclosures k h n ≤ 1
unfolding disclosures
once k h Nothing = omega arith
once k h (Reading t) = omega arith
once k h (Write t) = omega arith
once k h (Access t) = omega arith
once k h (Disclose t g) = go (eqb t k && eqb g h)
  where
    go : (b : Bool) → cond b 1 0 ≤ 1
    go true = omega arith
    go false = omega arith

weigh_up : (b : Bool) (n : ℕ) → UpTo n (weigh b n)
unfolding weigh repeatedly UpTo
weigh_up true zero = omega arith
weigh_up true (suc n) = tt
weigh_up false n = omega arith

disclosed_up : (k h : ℕ) (acts : List Act) → UpTo (length acts) (disclosed k h acts)
unfolding disclosed total
disclosed_up k h [] = up_nothing 0
disclosed_up k h (a ∷ acts) =
    up_join 1 (length acts) (length (a ∷ acts)) (weigh a.repeated (disclosures k h (need_of a))) (disclosed k h acts) (omega arith)
    (up_more (disclosures k h (need_of a)) 1 _ (once k h (need_of a)) (weigh_up a.repeated (disclosures k h (need_of a))))
    (disclosed_up k h acts)

-- What components need together.
module _ (among : Component → Bool) (k h : ℕ) (i : k < 16) (j : h < 64) where
  component_up : (l : Located) → UpTo (length (acts_of l)) (needed_by among k h (entries_of l))
  unfolding entries_of
  component_up l =
      rw (all_kinds_needed among k h (entry_of l.component (acts_of l)) l.component (λ q. unfold entry_of in refl) (λ q. unfold entry_of in refl) i)
      (go (among l.component))
    where
      go : (b : Bool) → UpTo (length (acts_of l)) (cond b (count_in h (entry_of l.component (acts_of l) k).disclose) (fin 0))
      go true = rw (listed_acts l.component (acts_of l) k h j) (disclosed_up k h (acts_of l))
      go false = up_nothing (length (acts_of l))

  all_up : (ls : List Located) → UpTo (acts_in ls) (needed_by among k h (gather entries_of ls))
  unfolding gather acts_in needed_by
  all_up [] = up_nothing 0
  all_up (l ∷ ls) =
      rw (needed_append among k h (entries_of l) (gather entries_of ls))
      (up_join (length (acts_of l)) (acts_in ls) (acts_in (l ∷ ls)) (needed_by among k h (entries_of l)) (needed_by among k h (gather entries_of ls)) (omega arith)
      (component_up l) (all_up ls))

  pub needed_few : (s charter : List ℕ) (sheet : Sheet) (end : ℕ) → SheetParts s charter sheet end → UpTo 4096 (needed_by among k h (interface sheet))
  unfolding interface
  needed_few s charter sheet end p = up_more (acts_in (located sheet)) 4096 _ (acts_few s charter sheet end p) (all_up (located sheet))

-- What a policy that was read grants for a group: a count of a list, of a head that a path reaches, and of the groups of a path together.
stored_up : (n : ℕ) → is_count n ≡ true → UpTo 4095 (stored_count n)
unfolding stored_count is_count UpTo
stored_up n t = go (leb 1 n) (leb n 4095) refl (eqb n 65535) t
  where
    go : (a b : Bool) → leb n 4095 ≡ b → (e : Bool) → ((a && b) || e) ≡ true → UpTo 4095 (cond e unlimited (fin n))
    go a b l true t = tt
    go true true l false t = leb-true n 4095 l
    go true false l false t = let z : ◌≡◌ {A = ℕ} 0 1 = cc in absurd (omega arith)
    go false b l false t = let z : ◌≡◌ {A = ℕ} 0 1 = cc in absurd (omega arith)

listed_up : (h : ℕ) (ds : List Granted) → in_counts ds ≡ true → UpTo 4095 (listed h ds)
unfolding listed in_counts every
listed_up h [] t = up_nothing 4095
listed_up h (d ∷ ds) t =
    let o = both_true (is_count d.count) (in_counts ds) t in
    go (eqb d.group h) (stored_up d.count o.0) (listed_up h ds o.1)
  where
    go : (b : Bool) → UpTo 4095 (stored_count d.count) → UpTo 4095 (listed h ds) → UpTo 4095 (cond b (stored_count d.count) (listed h ds))
    go true u v = u
    go false u v = v

unfoldable CountedHead : Head → Type 0
CountedHead head = in_counts head.permissions.list ≡ true

among_counted : (path : List ℕ) {ns : Nodes} → Lists (ListFits 0) ns → All CountedHead (reached_among path ns)
unfolding reached_among CountedHead
among_counted path lists_none = done
among_counted path (lists_more {g = g} {p = p} {below = below} l b r) = all_append (go (member g path) (among_counted path b)) (among_counted path r)
  where
    go : (t : Bool) → All CountedHead (reached_among path below)
        → All CountedHead (cond t (record { group = g; permissions = p } ∷ reached_among path below) [])
    go true more = also l.counts more
    go false more = done

reached_counted : (kind : ℕ) (path : List ℕ) {policy : List Tree} → AllLists (ListFits 0) policy → All CountedHead (reached_for policy kind path)
unfolding reached_for tree_for reached_in reached
reached_counted kind path all_none = done
reached_counted kind path (all_more {t = t} {rest = rest} c more) = go (eqb t.kind kind) (among_counted path c) (reached_counted kind path more)
  where
    go : (b : Bool) → All CountedHead (reached_among path (alone t.root)) → All CountedHead (reached_in path (tree_for kind rest))
        → All CountedHead (reached_in path (cond b (some t.root) (tree_for kind rest)))
    go true here later = here
    go false here later = later

-- for a purpose too
for_counted : (purpose : ℕ) {heads : List Head} → All CountedHead heads → All CountedHead (map (for_purpose purpose) heads)
unfolding CountedHead for_purpose only_for
for_counted purpose done = done
for_counted purpose (also {x = head} l more) = also (go (bit_at purpose head.permissions.purposes)) (for_counted purpose more)
  where
    go : (b : Bool) → in_counts (cond b head.permissions no_permissions).list ≡ true
    go true = l
    go false = unfold in_counts every in refl

given_up : (h g : ℕ) {heads : List Head} → All CountedHead heads → UpTo 4095 (listed h (given_by g heads).list)
unfolding given_by
given_up h g done = unfold listed in up_nothing 4095
given_up h g (also {x = head} {xs = heads} l more) = go (eqb head.group g) (given_up h g more)
  where
    go : (b : Bool) → UpTo 4095 (listed h (given_by g heads).list) → UpTo 4095 (listed h (cond b head.permissions (given_by g heads)).list)
    go true u = listed_up h head.permissions.list (unfold CountedHead in l)
    go false u = u

joined_up : (h : ℕ) {heads : List Head} → All CountedHead heads → (path : List ℕ) → UpTo (4095 * length path) (joined h heads path)
unfolding joined
joined_up h all [] = up_nothing 0
joined_up h {heads} all (g ∷ path) =
    up_join 4095 (4095 * length path) (4095 * length (g ∷ path)) (listed h (given_by g heads).list) (joined h heads path) (omega arith)
    (given_up h g all) (joined_up h all path)

pub granted_few : (h kind : ℕ) (c : Component) {policy : List Tree} → length c.path ≤ 8 → AllLists (ListFits 0) policy → UpTo 32760 (count_granted h policy kind c)
unfolding count_granted granting_to
granted_few h kind c short all =
    up_more (4095 * length c.path) 32760 _ (omega arith) (joined_up h (for_counted c.purpose (reached_counted kind c.path all)) c.path)

-- The policy of what is accepted was read.
accepted_counted : (s c : List ℕ) (a : Accepted) → judged s c ≡ passed a → AllLists (ListFits 0) a.policy
unfolding Every
accepted_counted s c a h = rw (passed_policy s c a h).reads at (policy_fits c)

-- A verdict whose sums are so bounded, and the verdicts on an entry whose kind, path and groups are in range.
unfoldable pub Bounded : Verdict → Type 0
Bounded (flag p b) = Unit {0}
Bounded (counts h needed granted) = UpTo 4096 needed × UpTo 32760 granted

module _ (s c : List ℕ) (a : Accepted) (passes : judged s c ≡ passed a) where
  abbrev verdict : Entry → Permission → Verdict
  verdict e p = verdict_of a.policy (required_of a.sheet) e p

  flag_bounded : (e : Entry) (b : Bool) (p : Permission) (ps : List Permission) → Bounded (verdict e p) → All Bounded (map (verdict e) ps)
      → All Bounded (map (verdict e) (flagged b p ++ ps))
  unfolding flagged
  flag_bounded e true p ps v vs = also v vs
  flag_bounded e false p ps v vs = vs

  module _ (e : Entry) (kind : e.kind < 16) (short : length e.component.path ≤ 8) where
    group_bounded : (h : ℕ) → h < 64 → Bounded (verdict e (disclosing h))
    unfolding verdict_of Bounded needed required_of
    group_bounded h low =
        let r = passed_reads s c a passes in (
          needed_few _ e.kind h kind low s c a.sheet r.end (sheet_parts s c r.reads),
          granted_few h e.kind e.component short (accepted_counted s c a passes),
        )

    groups_bounded : {ds : List Disclosure} → All (λ d. d.group < 64) ds → All Bounded (map (verdict e) (map (λ d. disclosing d.group) ds))
    groups_bounded done = done
    groups_bounded (also {x = d} low more) = also (group_bounded d.group low) (groups_bounded more)

    pub covering_bounded : All (λ d. d.group < 64) e.disclose → All Bounded (covering a.policy (required_of a.sheet) e)
    unfolding covering permissions verdict_of Bounded
    covering_bounded low =
        flag_bounded e e.read reading _ tt (flag_bounded e e.write writing _ tt (flag_bounded e e.access accessing _ tt (groups_bounded low)))

-- So two bytes hold each of its sums.
bounded_stored : {vs : List Verdict} → All Bounded vs → Storable vs
unfolding Bounded
bounded_stored done = storable_none
bounded_stored (also {x = v} {xs = vs} b bs) = go v b (bounded_stored bs)
  where
    go : (v : Verdict) → Bounded v → Storable vs → Storable (v ∷ vs)
    go (flag p g) b more = storable_flag more
    go (counts h n g) b more = storable_counts (up_number 4096 n (omega arith) b.0) (up_number 32760 g (omega arith) b.1) more

pub covering_stored : (s c : List ℕ) (a : Accepted) → judged s c ≡ passed a → (e : Entry) → e.kind < 16 → length e.component.path ≤ 8
    → All (λ d. d.group < 64) e.disclose → Storable (covering a.policy (required_of a.sheet) e)
covering_stored s c a passes e kind short low = bounded_stored (covering_bounded s c a passes e kind short low)

-- All of it, for each entry of the interface.
pub counts_stored : (s c : List ℕ) (a : Accepted) → judged s c ≡ passed a
    → All (λ e. Storable (covering a.policy (required_of a.sheet) e)) (interface a.sheet)
counts_stored s c a passes =
    let r = passed_reads s c a passes in
    all_map (λ e m. covering_stored s c a passes e m.kind m.path.short m.groups) (interface_small s c a.sheet r.end (sheet_parts s c r.reads))
