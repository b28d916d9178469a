-- Lists as tables: past the end 0 is read and nothing is stored.
use Prim.Native.Nat.{ℕ, ◌≤◌}
use mathlib.Core.List.{List}
use mathlib.Core.Path.{◌≡◌, sym}
use lib.ListN.{length, get_or, set, get_or-eq_default}
use lib.Seq.{set_out}

pub unset : (l : List ℕ) (i a : ℕ) → length l ≤ i → l ≡ set l i a
unset l i a h = sym (set_out l i a h)

pub unread : (l : List ℕ) (i : ℕ) → length l ≤ i → 0 ≡ get_or l i 0
unread l i h = sym (get_or-eq_default l 0 h)
