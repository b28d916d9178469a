-- A path: its length and its groups, stored one after the other.
use Rattle.std.proofs.Common.{◌∙◌, ap, length}
use Rattle.interface.proofs.InterfaceSteps.{path_written}
use Rattle.interface.proofs.writing.Output.put_path.Goals as goal

pub returns-clause-stored : goal.returns-clause-stored
returns-clause-stored c =
    path_written _ _ _ _ _ (c.groups-2.ensures ∙ c.path-path.ensures) (ap length (c.groups.ensures ∙ c.path-path.ensures)) c.put.ensures.stored
    c.put_groups.ensures.stored
