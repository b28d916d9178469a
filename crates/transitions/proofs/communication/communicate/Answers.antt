-- `communicate`: 30 for either index, 31 for either thread, 34, then the products of both in their places, or 35 (CommunicateSteps.antt).
use mathlib.Core.Path.{ap, ◌∙◌}
use Rattle.std.specs.Prelude.{Some}
use Rattle.transitions.proofs.OutcomeSteps.{never, outcome_taken, outcome_full}
use Rattle.transitions.proofs.CommunicateSteps.{no_sender, no_other, idle_sender, no_receiver, other_channel, communicated}
use Rattle.transitions.proofs.communication.communicate.Goals as goal

pub returns-then-sizes-m : goal.returns-then-sizes-m
returns-then-sizes-m c = no_sender _ _ _ _ _ _ c.requires.thread_room c.if-sizes-m.true

pub returns-then-sizes-m-2 : goal.returns-then-sizes-m-2
returns-then-sizes-m-2 c = no_other _ _ _ _ _ _ c.requires.thread_room c.if-sizes-m.false c.if-sizes-m-2.true

pub returns-in_default : goal.returns-in_default
returns-in_default c =
    idle_sender _ _ _ _ _ _ c.requires.thread_room c.if-sizes-m.false c.if-sizes-m-2.false _ _ c.thread_at-sender.ensures c.thread_at-receiver.ensures _ c.prefix_of.ensures
    (λ d q. c.in_default.not-Some _ q)

pub returns-in_default-front : goal.returns-in_default-front
returns-in_default-front c =
    idle_sender _ _ _ _ _ _ c.requires.thread_room c.if-sizes-m.false c.if-sizes-m-2.false _ _ c.thread_at-sender.ensures c.thread_at-receiver.ensures _ c.prefix_of.ensures
    (λ d q. never c.in-Some.is (c.in_default-front.not-Sends d) q)

pub returns-in_default-prefix_of : goal.returns-in_default-prefix_of
returns-in_default-prefix_of c =
    no_receiver _ _ _ _ _ _ c.requires.thread_room c.if-sizes-m.false c.if-sizes-m-2.false _ _ c.thread_at-sender.ensures c.thread_at-receiver.ensures _ c.prefix_of.ensures
    _ (c.in-Some.is ∙ ap Some c.in-Sends.is) _ c.prefix_of-2.ensures
    (λ d q. c.in_default-prefix_of.not-Some _ q)

pub returns-in_default-back : goal.returns-in_default-back
returns-in_default-back c =
    no_receiver _ _ _ _ _ _ c.requires.thread_room c.if-sizes-m.false c.if-sizes-m-2.false _ _ c.thread_at-sender.ensures c.thread_at-receiver.ensures _ c.prefix_of.ensures
    _ (c.in-Some.is ∙ ap Some c.in-Sends.is) _ c.prefix_of-2.ensures
    (λ d q. never c.in-Some-prefix_of.is (c.in_default-back.not-Receives d) q)

pub returns-then-give-take : goal.returns-then-give-take
returns-then-give-take c =
    other_channel _ _ _ _ _ _ c.requires.thread_room c.if-sizes-m.false c.if-sizes-m-2.false _ _ c.thread_at-sender.ensures c.thread_at-receiver.ensures _ c.prefix_of.ensures
    _ (c.in-Some.is ∙ ap Some c.in-Sends.is) _ c.prefix_of-2.ensures
    _ (c.in-Some-prefix_of.is ∙ ap Some c.in-Receives.is)
    c.if-give-take.true

pub returns-in_default-exchange : goal.returns-in_default-exchange
returns-in_default-exchange c =
    communicated _ _ _ _ _ _ c.requires.thread_room c.if-sizes-m.false c.if-sizes-m-2.false _ _ c.thread_at-sender.ensures c.thread_at-receiver.ensures _ c.prefix_of.ensures
    _ (c.in-Some.is ∙ ap Some c.in-Sends.is) _ c.prefix_of-2.ensures
    _ (c.in-Some-prefix_of.is ∙ ap Some c.in-Receives.is)
    _ _ _ _ _ _ _ c.if-give-take.false c.continuation-mine.ensures c.continuation-theirs.ensures c.exchange.ensures
    (outcome_full _ _ c.in_default-exchange.not-Some)

pub returns : goal.returns
returns c =
    communicated _ _ _ _ _ _ c.requires.thread_room c.if-sizes-m.false c.if-sizes-m-2.false _ _ c.thread_at-sender.ensures c.thread_at-receiver.ensures _ c.prefix_of.ensures
    _ (c.in-Some.is ∙ ap Some c.in-Sends.is) _ c.prefix_of-2.ensures
    _ (c.in-Some-prefix_of.is ∙ ap Some c.in-Receives.is)
    _ _ _ _ _ _ _ c.if-give-take.false c.continuation-mine.ensures c.continuation-theirs.ensures c.exchange.ensures
    (outcome_taken _ _ _ c.in-Some-exchange.is)
