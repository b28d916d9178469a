-- What a channel carries: the shape of T, then, if T is a channel, that of what T carries.
use Rattle.needs.proofs.NeedSteps.{need_steps}
use Rattle.needs.proofs.carried_by.Goals as goal

pub returns-in-Plain-shape_of : goal.returns-in-Plain-shape_of
returns-in-Plain-shape_of c = search need_steps

pub returns-in-Channel-shape_of : goal.returns-in-Channel-shape_of
returns-in-Channel-shape_of c = search need_steps
