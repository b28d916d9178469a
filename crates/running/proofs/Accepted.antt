-- What questions 1 to 18 answered "passed" say of a sheet and its policy: every act passes questions 7 to 10, every permission
-- that an act needs is granted to its path, and what the components of a class disclose together is at most what each of their
-- paths is granted.
use Prim.Native.Nat.{ℕ, zero, suc, ◌+◌, ◌<◌, ◌≤◌}
use native.Mathlib.Omega.{arith}
use mathlib.Core.Bool.{Bool, true, false, cond, not, ◌||◌}
use mathlib.Core.List.{List, [], ◌∷◌, ◌++◌, map, Memᴰ}
use mathlib.Core.Path.{◌≡◌, refl, sym, ap, ◌∙◌}
use lib.Dec.{eqb}
use borrow.Author.Tests.{eqb-true, eqb-false, eq-eqb, le-leb}
use Rattle.reading.proofs.TreeLaws.{sheet_parts}
use Rattle.needs.specs.declared.Need.{Need}
use Rattle.needs.specs.declared.Need.TheVariants.{Nothing, Read as Reads, Write as Writes, Access as Accesses, Disclose as Discloses}
use Rattle.needs.proofs.NeedLaws.{NeedRange}
use Rattle.inference.specs.Lists.{any, only, gather, rising}
use Rattle.inference.specs.Counts.{Count, fin, unlimited, ◌⊕◌, at_most, is_zero, repeatedly}
use Rattle.inference.specs.Acts.{Act, Located, located, acts_of, sheet_acts}
use Rattle.inference.specs.Classes.{shares}
use Rattle.inference.specs.Typing.{in_scope, on_channel, carries_object, in_path}
use Rattle.inference.specs.Needs.{need_of, is_read, is_write, is_access, disclosures, weigh, total, disclosed}
use Rattle.inference.specs.Interface.{Disclosure, Permission, reading, writing, accessing, disclosing, disclosures_of, entry_of, is_empty, holds_any, entries_of, interface, flagged, permissions, Required, required_of, needed_by, needed}
use Rattle.inference.proofs.CountLaws.{join_comm, at_most_self, at_most_trans, at_most_joined}
use Rattle.inference.proofs.ClassLaws.{or_first, or_second, shares_self, needed_class}
use Rattle.inference.proofs.NeedLaws.{act_range}
use Rattle.interface.proofs.TableLaws.{NoneTwice, AllStorable, store_none, store_more}
use Rattle.interface.proofs.StoreLaws.{sheet_storable}
use Rattle.policy.specs.Syntax.{Tree}
use Rattle.fit.specs.Grants.{flag_granted, count_granted}
use Rattle.fit.specs.Satisfies.{verdict_of, holds, grants_one, covered}
use Rattle.fit.proofs.EntryLaws.{covered_each}
use Rattle.fit.proofs.ClassGrants.{count_class}
use Rattle.service.specs.Questions.{passed, Accepted, judged}
use Rattle.service.proofs.PassedLaws.{Typed, Passed, judged_passed}
use Rattle.running.specs.Guarantees.{passes, grants_need, is_fine, acts_where}
use Rattle.running.proofs.Alls.{All, done, also, any_member, all_both, all_right, all_head, all_each, all_gather, all_member, all_from, all_every}
use Rattle.running.proofs.Components.{acts_component}
use Rattle.running.proofs.ClassCounts.{needed_disclosed, none_disclosed, one_disclosed}

-- Question 6 of what was read.
storable_once : {n : ℕ} {ls : List Located} → AllStorable n ls → All (λ l. NoneTwice l.component.path) ls
storable_once store_none = done
storable_once (store_more ok more) = also ok.fits.once (storable_once more)

paths_once : (s c : List ℕ) (a : Accepted) → judged s c ≡ passed a → All (λ l. NoneTwice l.component.path) (located a.sheet)
paths_once s c a h =
    let p : Passed s c a = judged_passed s c a h in
    storable_once (sheet_storable s c a.sheet p.place (sheet_parts s c p.reads))

passes_all : (a : Act) → in_scope a ≡ true → on_channel a ≡ true → carries_object a ≡ true → in_path a ≡ true → passes a ≡ true
unfolding passes
passes_all a h i j k = rw (h, i, j, k)

typed_acts : {xs : List Act} → All (λ a. in_scope a ≡ true) xs → All (λ a. on_channel a ≡ true) xs → All (λ a. carries_object a ≡ true) xs → All (λ a. in_path a ≡ true) xs
    → All (λ a. passes a ≡ true) xs
typed_acts done done done done = done
typed_acts (also {x = x} h hs) (also i is) (also j js) (also k ks) = also (passes_all x h i j k) (typed_acts hs is js ks)

pub accepted_typed : (s c : List ℕ) (a : Accepted) → judged s c ≡ passed a → All (λ x. passes x ≡ true) (sheet_acts a.sheet)
accepted_typed s c a h =
    let t : Typed (sheet_acts a.sheet) = (judged_passed s c a h).acts in
    typed_acts (all_every in_scope _ t.scopes) (all_every on_channel _ t.channels) (all_every carries_object _ t.carries) (all_every in_path _ t.paths)

-- What is kept of a list of numbered things holds of each that is kept.
cond_tail : {A : Type 0} {R : A → Type 0} (b : Bool) (x : A) (xs : List A) → All R (cond b (x ∷ xs) xs) → All R xs
cond_tail true x xs (also h hs) = hs
cond_tail false x xs hs = hs

cond_head : {A : Type 0} {R : A → Type 0} (b : Bool) (x : A) (xs : List A) → b ≡ true → All R (cond b (x ∷ xs) xs) → R x
cond_head true x xs e (also h hs) = h
cond_head false x xs e hs = let z : ◌≡◌ {A = ℕ} 0 1 = cc in absurd (omega arith)

kept_at : {A : Type 0} {R : A → Type 0} (r : A → Bool) (f : ℕ → A) (m n k : ℕ) → All R (only r (map f (rising m n))) → m ≤ k → k < m + n → r (f k) ≡ true → R (f k)
unfolding only rising
kept_at r f m zero k hs l u e = absurd (omega arith)
kept_at {A} {R} r f m (suc n) k hs l u e = go (eqb m k) refl (λ j. kept_at r f (suc m) n k (cond_tail (r (f m)) (f m) (only r (map f (rising (suc m) n))) hs) j (omega arith) e)
  where
    go : (b : Bool) → eqb m k ≡ b → (suc m ≤ k → R (f k)) → R (f k)
    go true q rest =
        let z : m ≡ k = eqb-true m k q in
        let e' : r (f m) ≡ true = rw z e in
        rw z at (cond_head (r (f m)) (f m) (only r (map f (rising (suc m) n))) e' hs)
    go false q rest = rest (omega (arith, eqb-false m k q))

all_unmap : {A B : Type 0} {R : B → Type 0} (f : A → B) (xs : List A) → All R (map f xs) → All (λ x. R (f x)) xs
all_unmap f [] hs = done
all_unmap f (x ∷ xs) (also h hs) = also h (all_unmap f xs hs)

none_empty : {A : Type 0} (xs : List A) → is_empty xs ≡ true → All (λ x. ◌≡◌ {A = ℕ} 0 1) xs
unfolding is_empty
none_empty [] h = done
none_empty (x ∷ xs) h = let z : ◌≡◌ {A = ℕ} 0 1 = cc in absurd (omega arith)

first_flag : {R : Permission → Type 0} (b : Bool) (p : Permission) (rest : List Permission) → b ≡ true → All R (flagged b p ++ rest) → R p
unfolding flagged
first_flag true p rest e hs = all_head hs
first_flag false p rest e hs = let z : ◌≡◌ {A = ℕ} 0 1 = cc in absurd (omega arith)

zero_at_most : (a b : Count) → is_zero a ≡ true → at_most a b ≡ true
unfolding is_zero at_most
zero_at_most (fin zero) (fin n) h = le-leb 0 n (omega arith)
zero_at_most (fin zero) unlimited h = refl
zero_at_most (fin (suc m)) b h = let z : ◌≡◌ {A = ℕ} 0 1 = cc in absurd (omega arith)
zero_at_most unlimited b h = let z : ◌≡◌ {A = ℕ} 0 1 = cc in absurd (omega arith)

-- An entry with a permission is in the interface, and so each of its permissions is granted.
module _ (policy : List Tree) (required : Required) (l : Located) (cover : All (λ e. covered policy required e ≡ true) (entries_of l)) where
  granted_at : (k : ℕ) → k < 16 → holds_any (entry_of l.component (acts_of l) k) ≡ true
      → All (λ p. grants_one policy required (entry_of l.component (acts_of l) k) p ≡ true) (permissions (entry_of l.component (acts_of l) k))
  unfolding entries_of
  granted_at k h e =
      all_every (grants_one policy required (entry_of l.component (acts_of l) k)) (permissions (entry_of l.component (acts_of l) k))
      (sym (covered_each policy required (entry_of l.component (acts_of l) k)) ∙ kept_at holds_any (entry_of l.component (acts_of l)) 0 16 k cover (omega arith) (omega arith) e)

  read_granted : (k : ℕ) → k < 16 → any (λ a. is_read k (need_of a)) (acts_of l) ≡ true → flag_granted 1 policy k l.component ≡ true
  unfolding permissions entry_of holds_any grants_one verdict_of holds
  read_granted k h e =
      let q : holds_any (entry_of l.component (acts_of l) k) ≡ true = or_first _ _ (or_first _ _ e) in
      first_flag _ reading _ e (granted_at k h q)

  write_granted : (k : ℕ) → k < 16 → any (λ a. is_write k (need_of a)) (acts_of l) ≡ true → flag_granted 2 policy k l.component ≡ true
  unfolding permissions entry_of holds_any grants_one verdict_of holds
  write_granted k h e =
      let q : holds_any (entry_of l.component (acts_of l) k) ≡ true = or_first _ _ (or_second (any (λ a. is_read k (need_of a)) (acts_of l)) _ e) in
      first_flag _ writing _ e (all_right (flagged (any (λ a. is_read k (need_of a)) (acts_of l)) reading) _ (granted_at k h q))

  access_granted : (k : ℕ) → k < 16 → any (λ a. is_access k (need_of a)) (acts_of l) ≡ true → flag_granted 4 policy k l.component ≡ true
  unfolding permissions entry_of holds_any grants_one verdict_of holds
  access_granted k h e =
      let q : holds_any (entry_of l.component (acts_of l) k) ≡ true
      = or_second (any (λ a. is_read k (need_of a)) (acts_of l) || any (λ a. is_write k (need_of a)) (acts_of l)) _ (or_first _ _ e) in
      first_flag _ accessing _ e
      (all_right (flagged (any (λ a. is_write k (need_of a)) (acts_of l)) writing) _
      (all_right (flagged (any (λ a. is_read k (need_of a)) (acts_of l)) reading) _ (granted_at k h q)))

  lists_it : (k h : ℕ) → h < 64 → is_zero (disclosed k h (acts_of l)) ≡ false → (b : Bool) → is_empty (disclosures_of k (acts_of l)) ≡ b → b ≡ false
  unfolding disclosures_of
  lists_it k h j e true q =
      let z : ◌≡◌ {A = ℕ} 0 1
      = kept_at {R = λ d. ◌≡◌ {A = ℕ} 0 1} (λ d. not (is_zero d.count)) (λ g. record { group = g; count = disclosed k g (acts_of l) }) 0 64 h
      (none_empty (disclosures_of k (acts_of l)) q) (omega arith) (omega arith) (ap not e) in
      absurd (omega arith)
  lists_it k h j e false q = refl

  -- "each count at most the granted sum", of what its class needs
  class_covered : (k h : ℕ) → k < 16 → h < 64 → is_zero (disclosed k h (acts_of l)) ≡ false
      → at_most (needed_by (shares l.component) k h required.entries) (count_granted h policy k l.component) ≡ true
  unfolding permissions entry_of holds_any grants_one verdict_of holds disclosures_of needed
  class_covered k h i j e =
      let n : is_empty (disclosures_of k (acts_of l)) ≡ false = lists_it k h j e (is_empty (disclosures_of k (acts_of l))) refl in
      let q : holds_any (entry_of l.component (acts_of l) k) ≡ true
      = or_second (any (λ a. is_read k (need_of a)) (acts_of l) || any (λ a. is_write k (need_of a)) (acts_of l)) _
      (or_second (any (λ a. is_access k (need_of a)) (acts_of l)) _ (ap not n)) in
      let g : All (λ p. grants_one policy required (entry_of l.component (acts_of l) k) p ≡ true) (map (λ d. disclosing d.group) (disclosures_of k (acts_of l)))
      = all_right (flagged (any (λ a. is_access k (need_of a)) (acts_of l)) accessing) _
      (all_right (flagged (any (λ a. is_write k (need_of a)) (acts_of l)) writing) _
      (all_right (flagged (any (λ a. is_read k (need_of a)) (acts_of l)) reading) _ (granted_at k i q))) in
      let w : at_most (needed required (entry_of l.component (acts_of l) k) h) (count_granted h policy k l.component) ≡ true
      = kept_at {R = λ d. grants_one policy required (entry_of l.component (acts_of l) k) (disclosing d.group) ≡ true}
      (λ d. not (is_zero d.count)) (λ g. record { group = g; count = disclosed k g (acts_of l) }) 0 64 h
      (all_unmap (λ (d : Disclosure). disclosing d.group) (disclosures_of k (acts_of l)) g) (omega arith) (omega arith) (ap not e) in
      w

-- An act of a list weighs at most what the list weighs.
weigh_least : (b : Bool) (n : ℕ) → at_most (fin n) (weigh b n) ≡ true
unfolding weigh repeatedly at_most
weigh_least false n = at_most_self (fin n)
weigh_least true zero = refl
weigh_least true (suc n) = refl

weight_member : (w : Act → ℕ) (a : Act) {xs : List Act} → Memᴰ a xs → at_most (fin (w a)) (total w xs) ≡ true
unfolding total
weight_member w a (Memᴰ.head {x = x} {xs = xs} e) =
    rw e (at_most_trans (fin (w x)) (weigh x.repeated (w x)) (weigh x.repeated (w x) ⊕ total w xs) (weigh_least x.repeated (w x)) (at_most_joined (weigh x.repeated (w x)) (total w xs)))
weight_member w a (Memᴰ.tail {x = x} {xs = xs} m) =
    at_most_trans (fin (w a)) (total w xs) (weigh x.repeated (w x) ⊕ total w xs) (weight_member w a m)
    (rw (join_comm (weigh x.repeated (w x)) (total w xs)) (at_most_joined (total w xs) (weigh x.repeated (w x))))

-- What an act of a covered process needs is granted to its path, where what the process discloses is.
module _ (policy : List Tree) (required : Required) (l : Located) (cover : All (λ e. covered policy required e ≡ true) (entries_of l))
    (counts : (k h : ℕ) → k < 16 → h < 64 → at_most (disclosed k h (acts_of l)) (count_granted h policy k l.component) ≡ true) where
  is_granted : (a : Act) → Memᴰ a (acts_of l) → (n : Need) → need_of a ≡ n → NeedRange n → grants_need policy l.component n ≡ true
  unfolding grants_need NeedRange is_read is_write is_access disclosures disclosed
  is_granted a m Nothing e r = refl
  is_granted a m (Reads k) e r = read_granted policy required l cover k r (any_member (λ b. is_read k (need_of b)) a m (rw e (eq-eqb k k refl)))
  is_granted a m (Writes k) e r = write_granted policy required l cover k r (any_member (λ b. is_write k (need_of b)) a m (rw e (eq-eqb k k refl)))
  is_granted a m (Accesses k) e r = access_granted policy required l cover k r (any_member (λ b. is_access k (need_of b)) a m (rw e (eq-eqb k k refl)))
  is_granted a m (Discloses k h) e r =
      let one : disclosures k h (need_of a) ≡ 1 = rw (e, eq-eqb k k refl, eq-eqb h h refl) in
      let w : at_most (fin 1) (disclosed k h (acts_of l)) ≡ true = rw one at (weight_member (λ b. disclosures k h (need_of b)) a m) in
      at_most_trans (fin 1) (disclosed k h (acts_of l)) (count_granted h policy k l.component) w (counts k h r.0 r.1)

  need_granted : (a : Act) → Memᴰ a (acts_of l) → grants_need policy a.component (need_of a) ≡ true
  unfolding need_of acts_of
  need_granted a m =
      let c : a.component ≡ l.component = all_member m (acts_component l.component false l.scope l.process) in
      rw c (is_granted a m (need_of a) refl (act_range a))

covers : (s c : List ℕ) (a : Accepted) → judged s c ≡ passed a → (l : Located) → Memᴰ l (located a.sheet)
    → All (λ e. covered a.policy (required_of a.sheet) e ≡ true) (entries_of l)
unfolding required_of interface
covers s c a h l m =
    all_member m (all_each entries_of (located a.sheet) (all_every (covered a.policy (required_of a.sheet)) (interface a.sheet) (judged_passed s c a h).satisfies.covers))

-- What the components of a class disclose together is at most what the path of any of them is granted: question 18 was asked at an
-- entry of each that discloses.
module _ (s c : List ℕ) (a : Accepted) (accepted : judged s c ≡ passed a) (l : Located) (m : Memᴰ l (located a.sheet))
    (k h : ℕ) (i : k < 16) (j : h < 64) where
  abbrev together : Count
  together = disclosed k h (acts_where (shares l.component) (sheet_acts a.sheet))

  abbrev grant : Count
  grant = count_granted h a.policy k l.component

  asked_at : (d : Located) → Memᴰ d (located a.sheet) → shares l.component d.component ≡ true → is_zero (disclosed k h (acts_of d)) ≡ false
      → at_most together grant ≡ true
  unfolding required_of
  asked_at d n t z =
      let once : All (λ x. NoneTwice x.component.path) (located a.sheet) = paths_once s c a accepted in
      let same : needed_by (shares d.component) k h (interface a.sheet) ≡ together
      = sym (needed_class l.component d.component t k h (interface a.sheet)) ∙ needed_disclosed (shares l.component) k h i j a.sheet in
      let g : count_granted h a.policy k d.component ≡ grant
      = sym (count_class h a.policy k l.component d.component (all_member {P = λ x. NoneTwice x.component.path} m once) (all_member {P = λ x. NoneTwice x.component.path} n once) t) in
      rw (same, g) at (class_covered a.policy (required_of a.sheet) d (covers s c a accepted d n) k h i j z)

  pub accepted_class : at_most together grant ≡ true
  unfolding sheet_acts
  accepted_class = go (at_most together grant) refl
    where
      none : at_most together grant ≡ false → (d : Located) → Memᴰ d (located a.sheet) → shares l.component d.component ≡ true
          → (b : Bool) → is_zero (disclosed k h (acts_of d)) ≡ b → b ≡ true
      none q d n t true z = refl
      none q d n t false z = let w : at_most together grant ≡ true = asked_at d n t z in let x : ◌≡◌ {A = ℕ} 0 1 = cc in absurd (omega arith)

      go : (b : Bool) → at_most together grant ≡ b → at_most together grant ≡ true
      go true q = q
      go false q =
          zero_at_most together grant
          (none_disclosed (shares l.component) k h (all_from (located a.sheet) (λ d n t. none q d n t (is_zero (disclosed k h (acts_of d))) refl)))

  -- So is what each discloses by itself.
  accepted_own : at_most (disclosed k h (acts_of l)) grant ≡ true
  unfolding sheet_acts
  accepted_own =
      at_most_trans (disclosed k h (acts_of l)) together grant
      (one_disclosed (shares l.component) k h l (shares_self l.component) m) accepted_class

fine : (policy : List Tree) (a : Act) → passes a ≡ true → grants_need policy a.component (need_of a) ≡ true → is_fine policy a ≡ true
unfolding is_fine
fine policy a g h = rw (g, h)

-- No act of an accepted sheet is an error.
pub accepted_fine : (s c : List ℕ) (a : Accepted) → judged s c ≡ passed a → All (λ x. is_fine a.policy x ≡ true) (sheet_acts a.sheet)
unfolding sheet_acts
accepted_fine s c a h =
    let g : All (λ x. grants_need a.policy x.component (need_of x) ≡ true) (gather acts_of (located a.sheet))
    = all_gather acts_of (all_from (located a.sheet) (λ l m. all_from (acts_of l) (λ x n. need_granted a.policy (required_of a.sheet) l (covers s c a h l m) (accepted_own s c a h l m) x n))) in
    all_both (λ x k n. fine a.policy x k n) (accepted_typed s c a h) g

-- Every act of a list makes true of the list what is true of it.
pub any_self : (f : Act → Act) (xs : List Act) → All (λ x. (t : Act → Bool) → t (f x) ≡ true → any (λ b. t (f b)) xs ≡ true) xs
any_self f xs = all_from xs (λ x m t h. any_member (λ b. t (f b)) x m h)
