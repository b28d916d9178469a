-- Copies between tables and within one: a turn of each loop, and a part of a list replaced.
use Prim.Native.Nat.{ℕ, suc, ◌+◌, ◌-◌, ◌<◌, ◌≤◌}
use mathlib.Core.List.{List, [], ◌∷◌, ◌++◌, append_assoc}
use mathlib.Core.Path.{◌≡◌, refl, sym, ap, ◌∙◌}
use native.Mathlib.Numerals.{add-one}
use native.Mathlib.Omega.{arith}
use borrow.Author.Rules.{rules}
use lib.ListN.{length, get_or, take, drop, set, length-drop, length-set, take-append-drop}
use lib.Seq.{drop_at, drop-cons, get_or-drop, get_or-take, length-paste, length-take-le, paste, paste-suc, paste-zero, set-append_left, take-add, take_all, take_at, take-paste, take-set-lt, take-suc-set, take-take, drop-paste}
use Rattle.memory.specs.Threads.{replaced}

-- The first `i` of what is copied are there.
pub record Copied (dst₀ : List ℕ) (to : ℕ) (src : List ℕ) (from count : ℕ) (dst : List ℕ) (i : ℕ) : Type 0 where
  pub most : i ≤ count
  pub same : length dst ≡ length dst₀
  pub is : dst ≡ paste dst₀ to (drop from src) i

module _ (dst₀ : List ℕ) (to : ℕ) (src : List ℕ) (from count : ℕ) where
  pub copy_begins : Copied dst₀ to src from count dst₀ 0
  copy_begins = record { most = omega arith; same = refl; is = paste-zero dst₀ to (drop from src) }

  module _ (dst : List ℕ) (i : ℕ) (t : Copied dst₀ to src from count dst i) where
    pub copy_goes_on : to + count ≤ length dst₀ → from + count ≤ length src → i < count
        → Copied dst₀ to src from count (set dst (to + i) (get_or src (from + i) 0)) (i + 1)
    copy_goes_on h k l =
        let room : to + (i + 1) ≤ length dst₀ = omega arith in
        let long : i + 1 ≤ length (drop from src) = omega (arith, length-drop from src) in
        let stored : set dst (to + i) (get_or src (from + i) 0) ≡ paste dst₀ to (drop from src) (i + 1) =
        rw (t.is, ← get_or-drop from src i 0, add-one i)
        (paste-suc dst₀ to (drop from src) i 0 (omega arith) (omega (arith, length-drop from src))) in
        record { most = omega arith; same = ap length stored ∙ length-paste dst₀ to (drop from src) (i + 1) room long; is = stored }

    pub copy_ends : count ≤ i → dst ≡ paste dst₀ to (drop from src) count
    copy_ends h = let e : count ≡ i = omega (arith, t.most) in rw e t.is

pub ruleset copy_steps = (rules, copy_begins, copy_goes_on, copy_ends)

-- Moved towards the front: what is read next stands behind what is written, and so is still what it was.
module _ (l : List ℕ) (to from count : ℕ) (down : to < from) (room : from + count ≤ length l) where
  module _ (dst : List ℕ) (i : ℕ) (t : Copied l to l from count dst i) where
    unread : i < count → get_or dst (from + i) 0 ≡ get_or l (from + i) 0
    unread h =
        let n : from + i ≡ (to + i) + (from - to) = omega arith in
        let kept : drop (to + i) dst ≡ drop (to + i) l =
        rw t.is (drop-paste l to (drop from l) i (omega arith) (omega (arith, length-drop from l))) in
        rw (n, ← get_or-drop (to + i) dst (from - to) 0, kept, get_or-drop (to + i) l (from - to) 0)

    pub down_goes_on : i < count → Copied l to l from count (set dst (to + i) (get_or dst (from + i) 0)) (i + 1)
    down_goes_on h = rw (unread h) (copy_goes_on l to l from count dst i t (omega arith) room h)

pub ruleset down_steps = (rules, copy_begins, copy_ends, down_goes_on)

-- A store before what was replaced makes one more replaced.
paste_before : (d : List ℕ) (at : ℕ) (s : List ℕ) (n : ℕ) (x : ℕ) → at < length d
    → set (paste d (at + 1) s n) at x ≡ paste d at (x ∷ s) (suc n)
paste_before d at s n x h =
    let head : List ℕ = take (suc at) d in
    let past : List ℕ = drop (suc at + n) d in
    let long : length head ≡ suc at = length-take-le (suc at) d (omega arith) in
    let stored : set head at x ≡ take at d ++ (x ∷ []) = sym (take-set-lt (suc at) d at x (omega arith)) ∙ take-suc-set d at x h in
    let same : suc at + n ≡ at + suc n = omega arith in
    rw (
      add-one at,
      append_assoc head (take n s) past,
      set-append_left head (take n s ++ past) at x (omega arith),
      stored,
      same,
      append_assoc (take at d) (x ∷ []) (take n s ++ drop (at + suc n) d),
      append_assoc (take at d) (x ∷ take n s) (drop (at + suc n) d),
    )

-- Moved towards the end, with `i` still to go.
pub record Lifted (l : List ℕ) (from to count : ℕ) (dst : List ℕ) (i : ℕ) : Type 0 where
  pub most : i ≤ count
  pub same : length dst ≡ length l
  pub is : dst ≡ paste l (to + i) (drop (from + i) l) (count - i)

module _ (l : List ℕ) (from to count : ℕ) where
  pub up_begins : Lifted l from to count l count
  up_begins =
      let z : count - count ≡ 0 = omega arith in
      record { most = omega arith; same = refl; is = rw z (paste-zero l (to + count) (drop (from + count) l)) }

  module _ (dst : List ℕ) (i : ℕ) (t : Lifted l from to count dst i) where
    pub up_ends : i ≤ 0 → dst ≡ paste l to (drop from l) count
    up_ends h =
        let z : i ≡ 0 = omega arith in
        let a : to + i ≡ to = omega arith in
        let b : from + i ≡ from = omega arith in
        let c : count - i ≡ count = omega arith in
        rw (← a, ← b, ← c) t.is

    module _ (up : from < to) (room : to + count ≤ length l) (h : 0 < i) where
      unlifted : get_or dst (from + (i - 1)) 0 ≡ get_or l (from + (i - 1)) 0
      unlifted =
          let others : List ℕ = take (count - i) (drop (from + i) l) ++ drop (to + i + (count - i)) l in
          let kept : take (to + i) dst ≡ take (to + i) l =
          rw (t.is, append_assoc (take (to + i) l) (take (count - i) (drop (from + i) l)) (drop (to + i + (count - i)) l))
          (take_at (take (to + i) l) others (to + i) (length-take-le (to + i) l (omega (arith, t.most)))) in
          sym (get_or-take (to + i) dst (from + (i - 1)) 0 (omega arith)) ∙ (ap (λ (r : List ℕ). get_or r (from + (i - 1)) 0) kept
          ∙ get_or-take (to + i) l (from + (i - 1)) 0 (omega arith))

      pub up_goes_on : Lifted l from to count (set dst (to + (i - 1)) (get_or dst (from + (i - 1)) 0)) (i - 1)
      up_goes_on =
          let a : to + i ≡ to + (i - 1) + 1 = omega arith in
          let b : from + i ≡ suc (from + (i - 1)) = omega arith in
          let c : count - (i - 1) ≡ suc (count - i) = omega (arith, t.most) in
          let next : drop (from + (i - 1)) l ≡ get_or l (from + (i - 1)) 0 ∷ drop (suc (from + (i - 1))) l =
          drop-cons l (from + (i - 1)) 0 (omega (arith, t.most)) in
          let so : dst ≡ paste l (to + (i - 1) + 1) (drop (suc (from + (i - 1))) l) (count - i) = rw (a, b) at t.is in
          let stored : set dst (to + (i - 1)) (get_or dst (from + (i - 1)) 0) ≡ paste l (to + (i - 1)) (drop (from + (i - 1)) l) (count - (i - 1)) =
          rw (unlifted, so, c, next)
          (paste_before l (to + (i - 1)) (drop (suc (from + (i - 1))) l) (count - i) (get_or l (from + (i - 1)) 0) (omega (arith, t.most))) in
          record { most = omega (arith, t.most); same = length-set dst (to + (i - 1)) (get_or dst (from + (i - 1)) 0) ∙ t.same; is = stored }

pub ruleset up_steps = (rules, up_begins, up_goes_on, up_ends)

-- Where nothing moves, all stays.
pub stays : (l : List ℕ) (from to count : ℕ) → from ≤ to → to ≤ from → l ≡ paste l to (drop from l) count
stays l from to count h k =
    let e : from ≡ to = omega arith in
    rw (e, ← take-add to count l, take-append-drop (to + count) l)

pub ruleset shift_steps = (rules, stays)

-- The part of a list from a place on, of its first `len`.
part_is : (l : List ℕ) (from len : ℕ) → from ≤ len → len ≤ length l → drop from (take len l) ≡ take (len - from) (drop from l)
part_is l from len h k =
    let n : len ≡ from + (len - from) = omega arith in
    let cut : take len l ≡ take from l ++ take (len - from) (drop from l) =
    ap (λ (m : ℕ). take m l) n ∙ take-add from (len - from) l in
    rw cut (drop_at (take from l) (take (len - from) (drop from l)) from (length-take-le from l (omega arith)))

-- The rest of a list moved, then others put before it.
module _ (l : List ℕ) (len at from : ℕ) (others : List ℕ) (h : at ≤ from) (k : from ≤ len) (m : len ≤ 128)
    (n : at + length others + (len - from) ≤ 128) (p : length l ≡ 128) where
  abbrev rest : List ℕ
  rest = take (len - from) (drop from l)

  abbrev moved : List ℕ
  moved = paste l (at + length others) (drop from l) (len - from)

  before : length (take (at + length others) l) ≡ at + length others
  before = length-take-le (at + length others) l (omega arith)

  moved_is : moved ≡ take (at + length others) l ++ (rest ++ drop (at + length others + (len - from)) l)
  moved_is = append_assoc (take (at + length others) l) rest (drop (at + length others + (len - from)) l)

  front : take at moved ≡ take at (take len l)
  front =
      let kept : take (at + length others) moved ≡ take (at + length others) l =
      rw moved_is (take_at (take (at + length others) l) (rest ++ drop (at + length others + (len - from)) l) (at + length others) before) in
      let less : at ≤ at + length others = omega arith in
      sym (take-take at (at + length others) moved less) ∙ (ap (λ (r : List ℕ). take at r) kept
      ∙ (take-take at (at + length others) l less ∙ sym (take-take at len l (omega arith))))

  back : take (len - from) (drop (at + length others) moved) ≡ drop from (take len l)
  back =
      let past = drop (at + length others + (len - from)) l in
      let long : length rest ≡ len - from = length-take-le (len - from) (drop from l) (omega (arith, length-drop from l)) in
      rw (moved_is, drop_at (take (at + length others) l) (rest ++ past) (at + length others) before, take_at rest past (len - from) long)
      (sym (part_is l from len k (omega arith)))

  put_before : take (at + length others + (len - from)) (paste moved at others (length others)) ≡ replaced (take len l) at from others
  unfolding replaced
  put_before =
      let same = length-paste l (at + length others) (drop from l) (len - from) (omega arith) (omega (arith, length-drop from l)) in
      let room : at ≤ length moved = rw same (omega arith) in
      let whole : take (length others) others ≡ others = take_all (length others) others (omega arith) in
      rw (
        take-add (at + length others) (len - from) (paste moved at others (length others)),
        take-paste moved at others (length others) room (omega arith),
        drop-paste moved at others (length others) room (omega arith),
        front,
        back,
        whole,
      )
      (append_assoc (take at (take len l)) others (drop from (take len l)))

  pub spliced : (l₁ l₂ : List ℕ) → l₁ ≡ moved → l₂ ≡ paste l₁ at (drop 0 others) (length others)
      → take (at + length others + (len - from)) l₂ ≡ replaced (take len l) at from others
  spliced l₁ l₂ e f = rw (f, e) put_before

pub ruleset splice_steps = (rules, spliced)
