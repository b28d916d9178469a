-- `play_over`: the table of forms has a place for each byte, that of the cells enough for the script.
use borrow.Author.Rules.{rules}
use Rattle.execution.proofs.PlaySteps.{few_enough, all_enough}
use Rattle.execution.proofs.opening.play_over.Goals as goal

pub play_in-requires-clause-enough : goal.play_in-requires-clause-enough
play_in-requires-clause-enough g c = few_enough _ (search rules)

pub play_in-requires-2-clause-enough : goal.play_in-requires-2-clause-enough
play_in-requires-2-clause-enough g c = all_enough _
