-- Tables that are filled part by part: what a form's number and its parts' numbers come to together. Over any trees.
use Prim.Native.Nat.{ℕ, ◌<◌, ◌≤◌}
use mathlib.Core.List.{List}
use mathlib.Core.Path.{◌≡◌, ap₂, ap, ◌∙◌}
use native.Mathlib.Omega.{arith}
use lib.ListN.{length, get_or, set}
use lib.Seq.{get_or-set_same, get_or-set_other}
use Rattle.decoding.specs.Notes.{Noted, Headed}

set_there : (l : List ℕ) (i j w : ℕ) → (j ≡ i → ⊥) → get_or (set l i w) j 0 ≡ get_or l j 0
set_there l i j w h = get_or-set_other l i j w 0 h

set_here : (l : List ℕ) (i w : ℕ) → i < length l → get_or (set l i w) i 0 ≡ w
set_here l i w h = get_or-set_same l i w 0 h

-- A form without parts.
pub noted_alone : {A : Type 0} (tree : List ℕ → A) (wanted : A) (at end word : ℕ) (before after : List ℕ) (r : ℕ) → r ≡ end
    → after ≡ set before at word → at < length before → at < end → ((forms : List ℕ) → get_or forms at 0 ≡ word → tree forms ≡ wanted)
    → Noted tree wanted at end before after r
noted_alone tree wanted at end word before after r e f here lt h = rw f (record {
  next = e;
  earlier = λ i k. set_there before at i word (λ z. omega arith);
  later = λ i k. set_there before at i word (λ z. omega arith);
  decoded = λ forms same. h forms (same at (omega arith) lt ∙ set_here before at word here);
})

-- A number stored, and then the part after it.
pub headed : {A : Type 0} (tree : List ℕ → A) (wanted : A) (at next end word : ℕ) (before between after : List ℕ) (r : ℕ)
    → between ≡ set before at word → at < length before → at < next → next ≤ end → Noted tree wanted next end between after r
    → Headed tree wanted word at end before after r
headed tree wanted at next end word before between after r f here lt le n = record {
  noted = record {
    next = n.next;
    earlier = λ i k. n.earlier i (omega arith) ∙ rw f (set_there before at i word (λ z. omega arith));
    later = λ i k. n.later i k ∙ rw f (set_there before at i word (λ z. omega arith));
    decoded = λ forms same. n.decoded forms (λ i p q. same i (omega arith) q);
  };
  head = n.earlier at lt ∙ rw f (set_here before at word here);
}

-- A form over one part.
pub noted_under : {A B : Type 0} (inner : List ℕ → A) (outer : List ℕ → B) (c : A → B) (a : A) (at end word : ℕ) (before after : List ℕ) (r : ℕ)
    → at < end → ((forms : List ℕ) → get_or forms at 0 ≡ word → outer forms ≡ c (inner forms)) → Headed inner a word at end before after r
    → Noted outer (c a) at end before after r
noted_under inner outer c a at end word before after r lt h n = record {
  next = n.noted.next;
  earlier = n.noted.earlier;
  later = n.noted.later;
  decoded = λ forms same. h forms (same at (omega arith) lt ∙ n.head) ∙ ap c (n.noted.decoded forms same);
}

-- A form over two parts, its number stored between them.
pub noted_parts : {A B : Type 0} (first second : List ℕ → A) (outer : List ℕ → B) (c : A → A → B) (a b : A) (at next middle end word : ℕ)
    (before left between after : List ℕ) (m r : ℕ) → at < length before → length left ≡ length before → at < next → next ≤ middle → middle ≤ end
    → ((forms : List ℕ) → get_or forms at 0 ≡ word → outer forms ≡ c (first forms) (second forms))
    → Noted first a next middle before left m → between ≡ set left at word → Noted second b middle end between after r
    → Noted outer (c a b) at end before after r
noted_parts first second outer c a b at next middle end word before left between after m r here same_length lt le le' h n f k = record {
  next = k.next;
  earlier = λ i p. k.earlier i (omega arith) ∙ kept i (λ z. omega arith) ∙ n.earlier i (omega arith);
  later = λ i p. k.later i p ∙ kept i (λ z. omega arith) ∙ n.later i (omega arith);
  decoded = λ forms same.
      h forms (same at (omega arith) (omega arith) ∙ k.earlier at (omega arith) ∙ rw f (set_here left at word (omega arith)))
      ∙ ap₂ c
      (n.decoded forms (λ i p q. same i (omega arith) (omega arith) ∙ k.earlier i q ∙ kept i (λ z. omega arith)))
      (k.decoded forms (λ i p q. same i (omega arith) q));
}
  where
    kept : (i : ℕ) → (i ≡ at → ⊥) → get_or between i 0 ≡ get_or left i 0
    kept i z = rw f (set_there left at i word z)
