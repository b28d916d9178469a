-- `environment_name`: 35, then the new name and its type at the ends of their tables (EnvironmentSteps.antt).
use Rattle.transitions.proofs.EnvironmentSteps.{environment_full, environment_taken}
use Rattle.transitions.proofs.environment.environment_name.Goals as goal

pub returns-then-name-ge1024 : goal.returns-then-name-ge1024
returns-then-name-ge1024 c forms threads cells state turns room h =
    environment_full _ _ _ _ c.requires.types c.requires.known forms threads cells state turns room h c.if-name-ge1024.true

pub returns : goal.returns
returns c forms threads cells state turns room h =
    environment_taken _ _ _ _ c.requires.types c.requires.known forms threads cells state turns room h _ _ c.if-name-ge1024.false c.put.ensures c.put-2.ensures
