-- `send_out`: 30, then 31 for each form that is no send, 32, then the products in place and the name known, or 35 (SendSteps.antt).
use mathlib.Core.Bool.{not}
use mathlib.Core.Path.{ap, ◌∙◌}
use Rattle.std.specs.Prelude.{Some}
use Rattle.transitions.proofs.OutcomeSteps.{never}
use Rattle.transitions.proofs.SendSteps.{send_no_thread, send_other, send_unknown, send_full, send_taken}
use Rattle.transitions.proofs.sending.send_out.Goals as goal

pub returns-then-sizes-i : goal.returns-then-sizes-i
returns-then-sizes-i c = send_no_thread _ _ _ _ _ _ _ c.requires.tables.thread_room c.if-sizes-i.true

pub returns-in_default : goal.returns-in_default
returns-in_default c =
    send_other _ _ _ _ _ _ _ c.requires.tables.thread_room _ _ c.if-sizes-i.false c.thread_at-thread.ensures c.prefix_of.ensures
    (λ d q. c.in_default.not-Some _ q)

pub returns-in_default-prefix : goal.returns-in_default-prefix
returns-in_default-prefix c =
    send_other _ _ _ _ _ _ _ c.requires.tables.thread_room _ _ c.if-sizes-i.false c.thread_at-thread.ensures c.prefix_of.ensures
    (λ d q. never c.in-Some.is (c.in_default-prefix.not-Sends d) q)

pub returns-then-not-is_known : goal.returns-then-not-is_known
returns-then-not-is_known c =
    send_unknown _ _ _ _ _ _ _ c.requires.tables.thread_room _ _ c.if-sizes-i.false c.thread_at-thread.ensures c.prefix_of.ensures
    _ (c.in-Some.is ∙ ap Some c.in-Sends.is) _ c.is_known.ensures (ap not c.if-not-is_known.true)

pub returns-in_default-replace : goal.returns-in_default-replace
returns-in_default-replace c =
    send_full _ _ _ _ _ _ _ c.requires.tables.thread_room _ _ c.if-sizes-i.false c.thread_at-thread.ensures c.prefix_of.ensures
    _ (c.in-Some.is ∙ ap Some c.in-Sends.is) _ c.is_known.ensures (ap not c.if-not-is_known.false)
    _ c.is_known-old.ensures _ c.continuation-follows.ensures _ _ _ _ c.requires.known c.replace.ensures c.in_default-replace.not-Some

pub returns : goal.returns
returns c =
    send_taken _ _ _ _ _ _ _ c.requires.tables.thread_room _ _ c.if-sizes-i.false c.thread_at-thread.ensures c.prefix_of.ensures
    _ (c.in-Some.is ∙ ap Some c.in-Sends.is) _ c.is_known.ensures (ap not c.if-not-is_known.false)
    _ c.is_known-old.ensures _ c.continuation-follows.ensures _ _ _ _ c.requires.known c.replace.ensures
    _ c.in-Some-replace.is _ _ c.know_sent.ensures c.sent_line.ensures
