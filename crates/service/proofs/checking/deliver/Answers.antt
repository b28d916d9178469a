-- The interface is written only where it fits.
use Rattle.service.proofs.CheckSteps.{no_room, room}
use Rattle.service.proofs.checking.deliver.Goals as goal

pub returns-then-output-len : goal.returns-then-output-len
returns-then-output-len c = no_room _ _ _ c.interface_len-len.ensures c.if-output-len.true

pub returns : goal.returns
returns c = room _ _ _ c.interface_len-len.ensures _ _ c.if-output-len.false c.write_interface.ensures
