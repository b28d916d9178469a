-- A thread whose fields fit their digits is the thread that its number stands for; and how long a list is of which a part is
-- replaced.
use Prim.Native.Nat.{ℕ, ◌+◌, ◌-◌, ◌*◌, ◌/◌, ◌%◌, ◌<◌, ◌≤◌}
use mathlib.Core.List.{List, ◌++◌}
use mathlib.Core.Path.{◌≡◌}
use native.Mathlib.Nat.{add-zero, div-eq_of_lt, mod-eq_of_lt, mod-lt, mul-add-div_right, mul-add-mod_self_right}
use native.Mathlib.Omega.{arith}
use lib.Dec.{lit<}
use lib.ListN.{length, take, drop, length-append, length-drop}
use lib.Seq.{length-take-le}
use Rattle.memory.specs.Threads.{packed, unpacked, replaced}
use Rattle.memory.specs.declared.Thread.{Thread}

-- The last digit of a number, and those before it.
pub digit_last : (a d m : ℕ) → d < m → (a * m + d) % m ≡ d
digit_last a d m h = rw (mul-add-mod_self_right a m d, mod-eq_of_lt h)

pub digits_before : (a d m : ℕ) → d < m → (a * m + d) / m ≡ a
digits_before a d m h = let pos : 0 < m = omega arith in rw (mul-add-div_right pos a d, div-eq_of_lt h, add-zero a)

pub unpack_pack : (t : Thread) → t.component < 256 → t.env < 65536 → t.names < 128 → t.nest < 128 → t.at < 8192 → unpacked (packed t) ≡ t
unfolding packed unpacked
unpack_pack t p e n k a =
    let who = t.env * 256 + t.component in
    let scope = who * 128 + t.names in
    let nested = scope * 128 + t.nest in
    rw (
      mod-eq_of_lt p,
      mod-eq_of_lt e,
      mod-eq_of_lt n,
      mod-eq_of_lt k,
      mod-eq_of_lt a,
      digits_before nested t.at 8192 a,
      digit_last nested t.at 8192 a,
      digits_before scope t.nest 128 k,
      digit_last scope t.nest 128 k,
      digits_before who t.names 128 n,
      digit_last who t.names 128 n,
      digits_before t.env t.component 256 p,
      digit_last t.env t.component 256 p,
    )

pub component_small : (w : ℕ) → (unpacked w).component < 256
unfolding unpacked
component_small w = mod-lt (w / 8192 / 128 / 128) (lit< tt)

pub replaced_length : {A : Type 0} (l : List A) (at from : ℕ) (others : List A) → at ≤ length l → from ≤ length l
    → length (replaced l at from others) ≡ at + length others + (length l - from)
unfolding replaced
replaced_length l at from others p q =
    let a : length (take at l) ≡ at = length-take-le at l p in
    omega (arith, length-append (take at l) (others ++ drop from l), length-append others (drop from l), length-drop from l, a)
