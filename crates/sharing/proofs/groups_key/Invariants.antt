-- The groups of a row become the digits of its key, from the last group to the first. Eight digits of base 65 fit into a word.
use Rattle.std.specs.Prelude.{◌-◌}
use Rattle.sharing.proofs.SumSteps.{Keying}
use Rattle.sharing.proofs.groups_key.Given as goal

abbrev pub invariant-loop-taken : goal.invariant-loop-taken
invariant-loop-taken l = Keying l.row.table.now l.row.component l.count (l.count - l.taken) l.key
