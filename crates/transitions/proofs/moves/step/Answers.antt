-- `step`: each move's own step is the step of that move (StepSteps.antt).
use Rattle.transitions.proofs.StepSteps.{step_unfold, step_send, step_receive, step_communicate, step_environment}
use Rattle.transitions.proofs.moves.step.Goals as goal

pub returns-in-Unfold : goal.returns-in-Unfold
returns-in-Unfold c = step_unfold _ _ _ _ _ _ _ _ _ _ _ _ c.in-Unfold.is c.requires.known c.unfold_replication.ensures

pub returns-in-SendOut : goal.returns-in-SendOut
returns-in-SendOut c = step_send _ _ _ _ _ _ _ _ _ _ _ _ _ c.in-SendOut.is c.send_out.ensures

pub returns-in-ReceiveIn : goal.returns-in-ReceiveIn
returns-in-ReceiveIn c = step_receive _ _ _ _ _ _ _ _ _ _ _ _ c.in-ReceiveIn.is c.receive_in.ensures

pub returns-in-Communicate : goal.returns-in-Communicate
returns-in-Communicate c = step_communicate _ _ _ _ _ _ _ _ _ _ _ _ c.in-Communicate.is c.requires.known c.communicate.ensures

pub returns-in-EnvironmentName : goal.returns-in-EnvironmentName
returns-in-EnvironmentName c =
    step_environment _ _ _ _ _ _ _ _ _ _ _ c.in-EnvironmentName.is c.requires.tables.thread_room c.environment_name.ensures
