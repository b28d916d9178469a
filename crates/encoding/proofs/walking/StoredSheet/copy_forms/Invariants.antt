-- What is written and the copies of the forms that are left are the whole. The measure: how many bytes are left.
use Rattle.std.specs.Prelude.{length, take, ◌++◌, ◌-◌}
use Rattle.encoding.specs.Copying.{copy_from}
use Rattle.encoding.proofs.CopySteps.{Copying}
use Rattle.encoding.proofs.walking.StoredSheet.copy_forms.Given as goal

abbrev pub invariant-loop-from : goal.invariant-loop-from
invariant-loop-from l =
    Copying l.self.dialect l.to l.self.bytes.now (take l.first l.initial.out ++ copy_from l.self.dialect l.to l.self.bytes.now l.first) l.initial.out l.from l.at l.out

abbrev pub decreases-loop-from : goal.decreases-loop-from
decreases-loop-from l = length l.self.bytes.now - l.from
