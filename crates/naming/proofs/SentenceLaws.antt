-- Two different triples of path, permission and kind never give the same sentence (document 02, Q-1): a name ends at the first byte
-- that is no letter, so each part of a sentence can be read off it from the left. And how long a sentence is, and that it is bytes.
use Prim.Native.Nat.{ℕ, zero, suc, ◌+◌, ◌*◌, ◌<◌, ◌≤◌}
use mathlib.Core.Path.{◌≡◌, refl, sym, ap, ◌∙◌}
use mathlib.Core.List.{List, [], ◌∷◌, ◌++◌, append_assoc}
use mathlib.Core.Bool.{Bool, true, false}
use native.Mathlib.Omega.{arith}
use borrow.Author.Tests.{ltb-true, lt-ltb}
use lib.Dec.{ltb}
use lib.ListN.{length, get_or, drop, length-append}
use Rattle.reading.specs.Read.{got}
use Rattle.reading.proofs.FormLaws.{both_true}
use Rattle.inference.specs.Lists.{every, gather}
use Rattle.inference.proofs.EveryLaws.{every_both}
use Rattle.inference.specs.Interface.{Permission, reading, writing, accessing, disclosing}
use Rattle.fit.specs.Uncovered.{Uncovered}
use Rattle.naming.specs.Names.{is_letter, Names, read_names}
use Rattle.naming.specs.Sentence.{
  name_of,
  slashed,
  path_names,
  may_not,
  read_verb,
  write_verb,
  access_verb,
  disclose_verb,
  verb,
  of_kind,
  sentence,
  group_in_range,
  Numbered,
}
use Rattle.naming.proofs.NameLaws.{AreNames, Named, names_read, name_tells, name_letters, name_few, letter_small}

-- Whether a letter comes next.
letter_next : List ℕ → Bool
letter_next [] = false
letter_next (x ∷ xs) = is_letter x

-- A word goes on for as long as letters come.
word_ends : (w v r q : List ℕ) → every is_letter w ≡ true → every is_letter v ≡ true → letter_next r ≡ false → letter_next q ≡ false
    → w ++ r ≡ v ++ q → (w ≡ v) × (r ≡ q)
unfolding every letter_next
word_ends [] [] r q a b h k e = (refl, e)
word_ends [] (y ∷ v) r q a b h k e =
    let i : is_letter y ≡ true = (both_true (is_letter y) (every is_letter v) b).0 in
    let j : is_letter y ≡ false = rw e at h in
    let z : ◌≡◌ {A = ℕ} 0 1 = cc in absurd (omega arith)
word_ends (x ∷ w) [] r q a b h k e =
    let i : is_letter x ≡ true = (both_true (is_letter x) (every is_letter w) a).0 in
    let j : is_letter x ≡ false = rw (← e) at k in
    let z : ◌≡◌ {A = ℕ} 0 1 = cc in absurd (omega arith)
word_ends (x ∷ w) (y ∷ v) r q a b h k e =
    let i : x ≡ y = cc in
    let t : w ++ r ≡ v ++ q = cc in
    let o = word_ends w v r q (both_true (is_letter x) (every is_letter w) a).1 (both_true (is_letter y) (every is_letter v) b).1 h k t in
    (rw (i, o.0), o.1)

module _ {n : ℕ} {names : List (List ℕ)} (a : AreNames n names) where
  name_ends : (g h : ℕ) (r q : List ℕ) → g < n → h < n → letter_next r ≡ false → letter_next q ≡ false
      → name_of names g ++ r ≡ name_of names h ++ q → (g ≡ h) × (r ≡ q)
  name_ends g h r q l m c d e =
      let o = word_ends (name_of names g) (name_of names h) r q (name_letters a g) (name_letters a h) c d e in
      (name_tells a g h l m o.0, o.1)

-- A path, up to the space after it: its first name ends at "/" or at the space.
below_all : (g : ℕ) (p : List ℕ) → every (λ g. ltb g 64) (g ∷ p) ≡ true → (g < 64) × (every (λ g. ltb g 64) p ≡ true)
unfolding every
below_all g p i = let o = both_true (ltb g 64) (every (λ g. ltb g 64) p) i in (ltb-true g 64 o.0, o.1)

module _ {groups : List (List ℕ)} (a : AreNames 64 groups) where
  no_letter : (p r : List ℕ) → letter_next (slashed groups p ++ (32 ∷ r)) ≡ false
  unfolding letter_next slashed gather is_letter
  no_letter [] r = refl
  no_letter (g ∷ p) r = refl

  first_tells : (g h : ℕ) (p q r m : List ℕ) → g < 64 → h < 64
      → (name_of groups g ++ slashed groups p) ++ (32 ∷ r) ≡ (name_of groups h ++ slashed groups q) ++ (32 ∷ m)
      → (g ≡ h) × (slashed groups p ++ (32 ∷ r) ≡ slashed groups q ++ (32 ∷ m))
  first_tells g h p q r m i j e =
      name_ends a g h (slashed groups p ++ (32 ∷ r)) (slashed groups q ++ (32 ∷ m)) i j (no_letter p r) (no_letter q m)
      (sym (append_assoc (name_of groups g) (slashed groups p) (32 ∷ r)) ∙ e ∙ append_assoc (name_of groups h) (slashed groups q) (32 ∷ m))

  slashed_tells : (p q r m : List ℕ) → every (λ g. ltb g 64) p ≡ true → every (λ g. ltb g 64) q ≡ true
      → slashed groups p ++ (32 ∷ r) ≡ slashed groups q ++ (32 ∷ m) → (p ≡ q) × (r ≡ m)
  unfolding slashed gather
  slashed_tells [] [] r m i j e = let t : r ≡ m = cc in (refl, t)
  slashed_tells [] (h ∷ q) r m i j e = let z : ◌≡◌ {A = ℕ} 32 47 = cc in absurd (omega arith)
  slashed_tells (g ∷ p) [] r m i j e = let z : ◌≡◌ {A = ℕ} 47 32 = cc in absurd (omega arith)
  slashed_tells (g ∷ p) (h ∷ q) r m i j e =
      let x = below_all g p i in
      let y = below_all h q j in
      let t : (name_of groups g ++ slashed groups p) ++ (32 ∷ r) ≡ (name_of groups h ++ slashed groups q) ++ (32 ∷ m) = cc in
      let o = first_tells g h p q r m x.0 y.0 t in
      let d = slashed_tells p q r m x.1 y.1 o.1 in
      (rw (o.0, d.0), d.1)

  -- a name is never empty: no path begins as the empty one does
  not_none : (g : ℕ) (p r m : List ℕ) → g < 64 → 32 ∷ r ≡ (name_of groups g ++ slashed groups p) ++ (32 ∷ m) → ⊥
  unfolding every letter_next is_letter
  not_none g p r m l e =
      let o = word_ends [] (name_of groups g) (32 ∷ r) (slashed groups p ++ (32 ∷ m)) refl (name_letters a g) refl (no_letter p m)
      (e ∙ append_assoc (name_of groups g) (slashed groups p) (32 ∷ m)) in
      omega (arith, (a.each g l).some, ap length o.0)

  path_tells : (p q r m : List ℕ) → every (λ g. ltb g 64) p ≡ true → every (λ g. ltb g 64) q ≡ true
      → path_names groups p ++ (32 ∷ r) ≡ path_names groups q ++ (32 ∷ m) → (p ≡ q) × (r ≡ m)
  unfolding path_names
  path_tells [] [] r m i j e = let t : r ≡ m = cc in (refl, t)
  path_tells [] (h ∷ q) r m i j e = absurd (not_none h q r m (below_all h q j).0 e)
  path_tells (g ∷ p) [] r m i j e = absurd (not_none g p m r (below_all g p i).0 (sym e))
  path_tells (g ∷ p) (h ∷ q) r m i j e = slashed_tells (g ∷ p) (h ∷ q) r m i j (unfold slashed gather in ap (λ (l : List ℕ). 47 ∷ l) e)

  -- A permission, up to the colon after it: the four verbs begin differently.
  verb_tells : (p q : Permission) (r m : List ℕ) → group_in_range p ≡ true → group_in_range q ≡ true
      → verb groups p ++ (58 ∷ r) ≡ verb groups q ++ (58 ∷ m) → (p ≡ q) × (r ≡ m)
  unfolding group_in_range verb letter_next is_letter
  verb_tells reading reading r m i j e = let t : r ≡ m = cc in (refl, t)
  verb_tells reading writing r m i j e = let z : ◌≡◌ {A = ℕ} 114 119 = cc in absurd (omega arith)
  verb_tells reading accessing r m i j e = let z : ◌≡◌ {A = ℕ} 114 97 = cc in absurd (omega arith)
  verb_tells reading (disclosing h) r m i j e = let z : ◌≡◌ {A = ℕ} 114 100 = cc in absurd (omega arith)
  verb_tells writing reading r m i j e = let z : ◌≡◌ {A = ℕ} 119 114 = cc in absurd (omega arith)
  verb_tells writing writing r m i j e = let t : r ≡ m = cc in (refl, t)
  verb_tells writing accessing r m i j e = let z : ◌≡◌ {A = ℕ} 119 97 = cc in absurd (omega arith)
  verb_tells writing (disclosing h) r m i j e = let z : ◌≡◌ {A = ℕ} 119 100 = cc in absurd (omega arith)
  verb_tells accessing reading r m i j e = let z : ◌≡◌ {A = ℕ} 97 114 = cc in absurd (omega arith)
  verb_tells accessing writing r m i j e = let z : ◌≡◌ {A = ℕ} 97 119 = cc in absurd (omega arith)
  verb_tells accessing accessing r m i j e = let t : r ≡ m = cc in (refl, t)
  verb_tells accessing (disclosing h) r m i j e = let z : ◌≡◌ {A = ℕ} 97 100 = cc in absurd (omega arith)
  verb_tells (disclosing g) reading r m i j e = let z : ◌≡◌ {A = ℕ} 100 114 = cc in absurd (omega arith)
  verb_tells (disclosing g) writing r m i j e = let z : ◌≡◌ {A = ℕ} 100 119 = cc in absurd (omega arith)
  verb_tells (disclosing g) accessing r m i j e = let z : ◌≡◌ {A = ℕ} 100 97 = cc in absurd (omega arith)
  verb_tells (disclosing g) (disclosing h) r m i j e =
      let t : name_of groups g ++ (58 ∷ r) ≡ name_of groups h ++ (58 ∷ m) = cc in
      let o = name_ends a g h (58 ∷ r) (58 ∷ m) (ltb-true g 64 i) (ltb-true h 64 j) refl refl t in
      let k : r ≡ m = cc in
      (ap disclosing o.0, k)

-- The whole: path, permission, kind.
named_tells : (names : Names) → Named names → (t u : Uncovered) → Numbered t → Numbered u → sentence names t ≡ sentence names u → t ≡ u
unfolding sentence of_kind
named_tells names a t u x y e =
    let p = path_tells a.groups t.path u.path _ _ x.path y.path e in
    let rest : verb names.groups t.permission ++ (58 ∷ 32 ∷ name_of names.kinds t.kind)
    ≡ verb names.groups u.permission ++ (58 ∷ 32 ∷ name_of names.kinds u.kind) = ap (drop 8) p.1 in
    let q = verb_tells a.groups t.permission u.permission _ _ x.permission y.permission rest in
    let k = name_tells a.kinds t.kind u.kind x.kind y.kind (ap (drop 1) q.1) in
    λ i. record { path = p.0 i; permission = q.0 i; kind = k i }

pub sentence_tells : (s : List ℕ) (names : Names) (end : ℕ) → read_names s ≡ got names end
    → (t u : Uncovered) → Numbered t → Numbered u → sentence names t ≡ sentence names u → t ≡ u
sentence_tells s names end e = named_tells names (names_read s names end e)

-- How long a sentence is.
slashed_few : {groups : List (List ℕ)} → AreNames 64 groups → (p : List ℕ) → length (slashed groups p) ≤ 21 * length p
unfolding slashed gather
slashed_few a [] = omega arith
slashed_few {groups} a (g ∷ p) =
    omega (arith, length-append (name_of groups g) (slashed groups p), name_few a g, slashed_few a p)

path_few : {groups : List (List ℕ)} → AreNames 64 groups → (p : List ℕ) → length p ≤ 8 → length (path_names groups p) ≤ 167
unfolding path_names
path_few a [] l = omega arith
path_few {groups} a (g ∷ p) l = omega (arith, length-append (name_of groups g) (slashed groups p), name_few a g, slashed_few a p)

verb_few : {groups : List (List ℕ)} → AreNames 64 groups → (p : Permission) → length (verb groups p) ≤ 32
unfolding verb
verb_few a reading = omega arith
verb_few a writing = omega arith
verb_few a accessing = omega arith
verb_few a (disclosing g) = omega (arith, name_few a g)

parts_long : (p v k : List ℕ) → length (p ++ (may_not ++ (v ++ (58 ∷ 32 ∷ k)))) ≡ length p + length v + length k + 11
parts_long p v k = omega (arith, length-append p (may_not ++ (v ++ (58 ∷ 32 ∷ k))), length-append v (58 ∷ 32 ∷ k))

pub sentence_length : (s : List ℕ) (names : Names) (end : ℕ) → read_names s ≡ got names end
    → (u : Uncovered) → length u.path ≤ 8 → length (sentence names u) ≤ 230
unfolding sentence of_kind
sentence_length s names end e u l =
    let a = names_read s names end e in
    omega (
      arith,
      parts_long (path_names names.groups u.path) (verb names.groups u.permission) (name_of names.kinds u.kind),
      path_few a.groups u.path l,
      verb_few a.groups u.permission,
      name_few a.kinds u.kind,
    )

pub sentence_some : (names : Names) (u : Uncovered) → 9 < length (sentence names u)
unfolding sentence of_kind
sentence_some names u =
    omega (arith, parts_long (path_names names.groups u.path) (verb names.groups u.permission) (name_of names.kinds u.kind))

-- A sentence is bytes.
every_more : {A : Type 0} (p q : A → Bool) → ((x : A) → p x ≡ true → q x ≡ true) → (xs : List A) → every p xs ≡ true → every q xs ≡ true
unfolding every
every_more p q f [] h = refl
every_more p q f (x ∷ xs) h = let o = both_true (p x) (every p xs) h in rw (f x o.0) (every_more p q f xs o.1)

is_byte : ℕ → Bool
is_byte b = ltb b 256

module _ {n : ℕ} {names : List (List ℕ)} (a : AreNames n names) where
  name_bytes : (i : ℕ) → every is_byte (name_of names i) ≡ true
  unfolding is_byte
  name_bytes i = every_more is_letter is_byte (λ b h. lt-ltb b 256 (letter_small b h)) (name_of names i) (name_letters a i)

  slashed_bytes : (p : List ℕ) → every is_byte (slashed names p) ≡ true
  unfolding every slashed gather is_byte
  slashed_bytes [] = refl
  slashed_bytes (g ∷ p) = every_both is_byte (name_of names g) (slashed names p) (name_bytes g) (slashed_bytes p)

  path_bytes : (p : List ℕ) → every is_byte (path_names names p) ≡ true
  unfolding every path_names
  path_bytes [] = refl
  path_bytes (g ∷ p) = every_both is_byte (name_of names g) (slashed names p) (name_bytes g) (slashed_bytes p)

  verb_bytes : (p : Permission) → every is_byte (verb names p) ≡ true
  unfolding every verb is_byte
  verb_bytes reading = refl
  verb_bytes writing = refl
  verb_bytes accessing = refl
  verb_bytes (disclosing g) = name_bytes g

each_byte : (bs : List ℕ) → every is_byte bs ≡ true → (i : ℕ) → get_or bs i 0 < 256
unfolding every is_byte
each_byte [] h i = omega arith
each_byte (b ∷ bs) h zero = ltb-true b 256 (both_true (ltb b 256) (every is_byte bs) h).0
each_byte (b ∷ bs) h (suc i) = each_byte bs (both_true (ltb b 256) (every is_byte bs) h).1 i

pub sentence_bytes : (s : List ℕ) (names : Names) (end : ℕ) → read_names s ≡ got names end
    → (u : Uncovered) (i : ℕ) → get_or (sentence names u) i 0 < 256
unfolding sentence of_kind every is_byte
sentence_bytes s names end e u =
    let a = names_read s names end e in
    each_byte (sentence names u) (every_both is_byte (path_names names.groups u.path) _ (path_bytes a.groups u.path)
    (every_both is_byte (verb names.groups u.permission) _ (verb_bytes a.groups u.permission) (name_bytes a.kinds u.kind)))
