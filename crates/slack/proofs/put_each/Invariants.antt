-- Storing the sums left makes of the output now what storing all makes of it at first, five bytes each.
use Rattle.std.specs.Prelude.{◌≡◌, length}
use Rattle.interface.proofs.WriteLaws.{Writing}
use Rattle.slack.proofs.SlackSteps.{sum_part}
use Rattle.slack.proofs.put_each.Given as goal

abbrev pub invariant-loop-sum : goal.invariant-loop-sum
invariant-loop-sum l =
    Writing (sum_part l.sums) 5 (length l.sums) l.initial.output.bytes.now l.initial.output.next l.output.bytes.now l.output.next l.sum-index
    × (l.output.bytes.ghost_name ≡ l.initial.output.bytes.ghost_name)
