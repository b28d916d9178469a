-- The sentence is written only where it fits; its length is that of the sentence stored nowhere.
use Rattle.std.proofs.Common.{arith}
use Rattle.service.proofs.CheckSteps.{no_room, room}
use Rattle.explaining.proofs.say.Goals as goal

pub returns-then-line-len : goal.returns-then-line-len
returns-then-line-len c = no_room _ _ _ (omega (arith, c.put_sentence-len.ensures.next)) c.if-line-len.true

pub returns : goal.returns
returns c = room _ _ _ (omega (arith, c.put_sentence-len.ensures.next)) _ _ c.if-line-len.false c.put_sentence.ensures
