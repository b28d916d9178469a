-- `play`: questions 1 to 18 decide; where they pass, the sheet reads, and its run is the definition's.
use Rattle.execution.proofs.PlaySteps.{play_steps}
use Rattle.execution.proofs.play.Goals as goal

pub play_accepted-requires : goal.play_accepted-requires
play_accepted-requires c = search play_steps

pub returns : goal.returns
returns c = search play_steps
