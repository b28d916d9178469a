-- What is stated from the form on decides for all. The measure: how many bytes are left.
use Rattle.std.specs.Prelude.{length, ◌-◌}
use Rattle.encoding.proofs.WalkSteps.{Asking}
use Rattle.encoding.proofs.walking.StoredSheet.all_zero.Given as goal

abbrev pub invariant-loop-at : goal.invariant-loop-at
invariant-loop-at l = Asking l.self.dialect l.self.bytes.now l.at

abbrev pub decreases-loop-at : goal.decreases-loop-at
decreases-loop-at l = length l.self.bytes.now - l.at
