-- What the entries of one component, one of each kind that is used, need together of a kind: what the entry of that kind lists, where the
-- component is one of those asked for and the kind is used. An entry without a permission, which is left out, lists nothing.
use Prim.Native.Nat.{ℕ, zero, suc, ◌+◌, ◌<◌, ◌≤◌}
use native.Mathlib.Omega.{arith}
use mathlib.Core.Bool.{Bool, true, false, cond, not, ◌&&◌, ◌||◌}
use mathlib.Core.List.{List, [], ◌∷◌, map}
use mathlib.Core.Path.{◌≡◌, refl, sym, ◌∙◌}
use lib.Dec.{eqb}
use borrow.Author.Tests.{eqb-true, eqb-false, ne_eqb}
use Rattle.inference.specs.Acts.{Component}
use Rattle.inference.specs.Counts.{Count, fin, ◌⊕◌}
use Rattle.inference.specs.Interface.{Disclosure, Entry, is_empty, holds_any, count_in, needed_by}
use Rattle.inference.specs.Lists.{only, rising}
use Rattle.inference.proofs.CountLaws.{join_nothing, nothing_join}

-- An entry without a permission has no list.
no_list : (h : ℕ) (e : Entry) → holds_any e ≡ false → count_in h e.disclose ≡ fin 0
unfolding holds_any is_empty count_in
no_list h e q = go e.disclose (e.read || e.write) e.access q
  where
    go : (ds : List Disclosure) (a b : Bool) → (a || (b || not (is_empty ds))) ≡ false → count_in h ds ≡ fin 0
    go [] a b k = refl
    go (d ∷ ds) true b k = let z : ◌≡◌ {A = ℕ} 0 1 = cc in absurd (omega arith)
    go (d ∷ ds) false true k = let z : ◌≡◌ {A = ℕ} 0 1 = cc in absurd (omega arith)
    go (d ∷ ds) false false k = let z : ◌≡◌ {A = ℕ} 0 1 = cc in absurd (omega arith)

either : (b : Bool) (x : Count) → x ≡ fin 0 → cond b x (fin 0) ≡ fin 0
either true x e = e
either false x e = refl

neither : (a : Bool) (x : Count) → cond (a && false) x (fin 0) ≡ fin 0
neither true x = refl
neither false x = refl

module _ (among : Component → Bool) (k h : ℕ) (f : ℕ → Entry) (c : Component) (owner : (q : ℕ) → (f q).component ≡ c) (kind : (q : ℕ) → (f q).kind ≡ q) where
  -- What an entry adds, whether it is left out or not.
  one_more : (q : ℕ) (rest : List Entry) → needed_by among k h (only holds_any (f q ∷ rest))
      ≡ cond (among c && eqb q k) (count_in h (f q).disclose) (fin 0) ⊕ needed_by among k h (only holds_any rest)
  unfolding needed_by only
  one_more q rest = go (holds_any (f q)) refl
    where
      go : (b : Bool) → holds_any (f q) ≡ b → needed_by among k h (cond b (f q ∷ only holds_any rest) (only holds_any rest))
          ≡ cond (among c && eqb q k) (count_in h (f q).disclose) (fin 0) ⊕ needed_by among k h (only holds_any rest)
      go true e = rw (owner q, kind q)
      go false e =
          let z : cond (among c && eqb q k) (count_in h (f q).disclose) (fin 0) ≡ fin 0 = either (among c && eqb q k) (count_in h (f q).disclose) (no_list h (f q) e) in
          rw z (sym (nothing_join (needed_by among k h (only holds_any rest))))

  module _ (used : ℕ → Bool) where
    entries : ℕ → ℕ → List Entry
    entries m n = only holds_any (map f (only used (rising m n)))

    own : Count
    own = cond (among c && used k) (count_in h (f k).disclose) (fin 0)

    later_kinds : (m n : ℕ) → k < m → needed_by among k h (entries m n) ≡ fin 0
    unfolding entries only rising
    later_kinds m zero l = unfold needed_by in refl
    later_kinds m (suc n) l = go (used m) (later_kinds (suc m) n (omega arith))
      where
        go : (u : Bool) → needed_by among k h (entries (suc m) n) ≡ fin 0
            → needed_by among k h (only holds_any (map f (cond u (m ∷ only used (rising (suc m) n)) (only used (rising (suc m) n))))) ≡ fin 0
        go true e =
            let one : needed_by among k h (only holds_any (f m ∷ map f (only used (rising (suc m) n)))) ≡ cond (among c && eqb m k) (count_in h (f m).disclose) (fin 0) ⊕ needed_by among k h (entries (suc m) n)
            = one_more m (map f (only used (rising (suc m) n))) in
            one ∙ rw (ne_eqb m k (λ q. omega arith), neither (among c) (count_in h (f m).disclose), e) (nothing_join (fin 0))
        go false e = e

    of_kind_lem : (m n : ℕ) → m ≤ k → k < m + n → needed_by among k h (entries m n) ≡ own
    unfolding entries only rising own
    of_kind_lem m zero l u = absurd (omega arith)
    of_kind_lem m (suc n) l u = go (eqb m k) refl (used m) refl (later_kinds (suc m) n) (λ j. of_kind_lem (suc m) n j (omega arith))
      where
        one : needed_by among k h (only holds_any (f m ∷ map f (only used (rising (suc m) n)))) ≡ cond (among c && eqb m k) (count_in h (f m).disclose) (fin 0) ⊕ needed_by among k h (entries (suc m) n)
        one = one_more m (map f (only used (rising (suc m) n)))

        go : (t : Bool) → eqb m k ≡ t → (u : Bool) → used m ≡ u → (k < suc m → needed_by among k h (entries (suc m) n) ≡ fin 0)
            → (suc m ≤ k → needed_by among k h (entries (suc m) n) ≡ own)
            → needed_by among k h (only holds_any (map f (cond u (m ∷ only used (rising (suc m) n)) (only used (rising (suc m) n))))) ≡ own
        go true q true e none rest =
            let z : m ≡ k = eqb-true m k q in
            let w : used k ≡ true = rw z at e in
            one ∙ rw (q, none (omega arith), w, z) (join_nothing _)
        go true q false e none rest =
            let z : m ≡ k = eqb-true m k q in
            let w : used k ≡ false = rw z at e in
            none (omega arith) ∙ rw w (sym (neither (among c) (count_in h (f k).disclose)))
        go false q true e none rest = one ∙ rw (q, neither (among c) (count_in h (f m).disclose)) (nothing_join _ ∙ rest (omega (arith, eqb-false m k q)))
        go false q false e none rest = rest (omega (arith, eqb-false m k q))

  -- The kinds are below 16.
  pub kinds_needed : (used : ℕ → Bool) → k < 16 → needed_by among k h (only holds_any (map f (only used (rising 0 16)))) ≡ cond (among c && used k) (count_in h (f k).disclose) (fin 0)
  kinds_needed used l = unfold entries own in of_kind_lem used 0 16 (omega arith) (omega arith)

  -- All kinds are used.
  pub all_kinds_needed : k < 16 → needed_by among k h (only holds_any (map f (rising 0 16))) ≡ cond (among c) (count_in h (f k).disclose) (fin 0)
  unfolding only rising
  all_kinds_needed l = kinds_needed (λ q. true) l ∙ go (among c)
    where
      go : (a : Bool) → cond (a && true) (count_in h (f k).disclose) (fin 0) ≡ cond a (count_in h (f k).disclose) (fin 0)
      go true = refl
      go false = refl
