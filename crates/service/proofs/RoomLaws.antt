-- How much room `check` can need: an interface has at most 18,944 bytes, so that an output of that length is never refused
-- with 19; and the number of a question that fails is at most 19.
use Prim.Native.Nat.{ℕ, ◌≤◌}
use mathlib.Core.Path.{◌≡◌, refl}
use mathlib.Core.List.{List}
use mathlib.Core.Bool.{Bool, true, false}
use native.Mathlib.Omega.{arith}
use lib.ListN.{length}
use lib.Dec.{leb}
use borrow.Author.Tests.{le-leb}
use Rattle.reading.proofs.TreeLaws.{sheet_parts}
use Rattle.inference.specs.Interface.{interface, interface_bytes}
use Rattle.interface.proofs.SizeLaws.{interface_short}
use Rattle.service.specs.Questions.{Asked, passed, failed, ask, Accepted, judged}
use Rattle.service.specs.Check.{fitting, interface_for, written, checked}
use Rattle.service.proofs.FirstLaws.{passed_reads, failed_below}

-- an interface that is accepted is short
pub accepted_short : (s c : List ℕ) (a : Accepted) → judged s c ≡ passed a → length (interface_bytes (interface a.sheet)) ≤ 18944
accepted_short s c a e =
    let r = passed_reads s c a e in interface_short s c a.sheet r.end (sheet_parts s c r.reads)

-- What a call of `check` answers: a length of at most 18,944, or a number of at most 19.
unfoldable pub InRange : Asked ℕ → Type 0
InRange (passed n) = n ≤ 18944
InRange (failed q) = q ≤ 19

pub check_in_range : (s c output : List ℕ) → InRange (checked s c output).answer
unfolding checked
check_in_range s c output = go (judged s c) refl
  where
    fits : (a : Accepted) (b : Bool) → judged s c ≡ passed a
        → InRange (written output (ask 19 b (passed (interface_bytes (interface a.sheet))))).answer
    fits a true e = unfold written ask InRange in accepted_short s c a e
    fits a false e = unfold written ask InRange in omega arith

    go : (x : Asked Accepted) → judged s c ≡ x → InRange (written output (interface_for output x)).answer
    go (passed a) e = unfold interface_for fitting in fits a (leb (length (interface_bytes (interface a.sheet))) (length output)) e
    go (failed n) e = unfold interface_for written InRange in omega (arith, failed_below s c n e)

-- An output of 18,944 bytes has room for every interface: a call that passes questions 1 to 18 is accepted.
pub always_room : (s c output : List ℕ) (a : Accepted) → judged s c ≡ passed a → 18944 ≤ length output
    → (checked s c output).answer ≡ passed (length (interface_bytes (interface a.sheet)))
unfolding checked interface_for fitting ask written
always_room s c output a e h =
    rw (e, le-leb (length (interface_bytes (interface a.sheet))) (length output) (omega (arith, accepted_short s c a e))) refl
