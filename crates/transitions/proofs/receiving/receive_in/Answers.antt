-- `receive_in`: 30, then 31 for each form that is no receive, 32, 33, then the products under the name received, or 35 (ReceiveSteps.antt).
use mathlib.Core.Bool.{not}
use mathlib.Core.Path.{ap, ◌∙◌}
use borrow.Author.Rules.{rules}
use Rattle.std.specs.Prelude.{Some}
use Rattle.transitions.proofs.OutcomeSteps.{never, outcome_taken, outcome_full}
use Rattle.transitions.proofs.ReceiveSteps.{receive_no_thread, receive_other, channel_unknown, name_unknown, other_type, receive_placed, wider_inside, wider_tables}
use Rattle.transitions.proofs.receiving.receive_in.Goals as goal

pub returns-then-sizes-m : goal.returns-then-sizes-m
returns-then-sizes-m c = receive_no_thread _ _ _ _ _ _ _ c.requires.tables.thread_room c.if-sizes-m.true

pub returns-in_default : goal.returns-in_default
returns-in_default c =
    receive_other _ _ _ _ _ _ _ c.requires.tables.thread_room _ _ c.if-sizes-m.false c.thread_at-thread.ensures c.prefix_of.ensures
    (λ d q. c.in_default.not-Some _ q)

pub returns-in_default-prefix : goal.returns-in_default-prefix
returns-in_default-prefix c =
    receive_other _ _ _ _ _ _ _ c.requires.tables.thread_room _ _ c.if-sizes-m.false c.thread_at-thread.ensures c.prefix_of.ensures
    (λ d q. never c.in-Some.is (c.in_default-prefix.not-Receives d) q)

pub returns-then-not-is_known : goal.returns-then-not-is_known
returns-then-not-is_known c =
    channel_unknown _ _ _ _ _ _ _ c.requires.tables.thread_room _ _ c.if-sizes-m.false c.thread_at-thread.ensures c.prefix_of.ensures
    _ (c.in-Some.is ∙ ap Some c.in-Receives.is) _ c.is_known.ensures (ap not c.if-not-is_known.true)

pub returns-then-not-is_known-2 : goal.returns-then-not-is_known-2
returns-then-not-is_known-2 c =
    name_unknown _ _ _ _ _ _ _ c.requires.tables.thread_room _ _ c.if-sizes-m.false c.thread_at-thread.ensures c.prefix_of.ensures
    _ (c.in-Some.is ∙ ap Some c.in-Receives.is) _ c.is_known.ensures (ap not c.if-not-is_known.false)
    _ c.is_known-2.ensures (ap not c.if-not-is_known-2.true)

pub returns-then-type_of-act : goal.returns-then-type_of-act
returns-then-type_of-act c =
    other_type _ _ _ _ _ _ _ c.requires.tables.thread_room _ _ c.if-sizes-m.false c.thread_at-thread.ensures c.prefix_of.ensures
    _ (c.in-Some.is ∙ ap Some c.in-Receives.is) _ c.is_known.ensures (ap not c.if-not-is_known.false)
    _ c.is_known-2.ensures (ap not c.if-not-is_known-2.false) _ c.type_of.ensures c.if-type_of-act.true

pub replace-requires : goal.replace-requires
replace-requires c = record {
  ordered = (search rules, wider_inside _ _ _ c.with_cell-wider.ensures c.if-sizes-m.false);
  tables = wider_tables _ _ _ _ _ _ _ _ _ _ c.with_cell-wider.ensures c.bind.ensures c.requires.tables;
}

pub returns-in_default-replace : goal.returns-in_default-replace
returns-in_default-replace c =
    receive_placed _ _ _ _ _ _ _ c.requires.tables.thread_room _ _ c.if-sizes-m.false c.thread_at-thread.ensures c.prefix_of.ensures
    _ (c.in-Some.is ∙ ap Some c.in-Receives.is) _ c.is_known.ensures (ap not c.if-not-is_known.false)
    _ c.is_known-2.ensures (ap not c.if-not-is_known-2.false) _ c.type_of.ensures
    _ _ _ _ _ _ _ _ _ c.if-type_of-act.false c.requires.known c.requires.tables.cell_room
    c.continuation-follows.ensures c.under_cell-process.ensures c.bind.ensures c.with_cell-wider.ensures c.replace.ensures
    (outcome_full _ _ c.in_default-replace.not-Some)

pub returns : goal.returns
returns c =
    receive_placed _ _ _ _ _ _ _ c.requires.tables.thread_room _ _ c.if-sizes-m.false c.thread_at-thread.ensures c.prefix_of.ensures
    _ (c.in-Some.is ∙ ap Some c.in-Receives.is) _ c.is_known.ensures (ap not c.if-not-is_known.false)
    _ c.is_known-2.ensures (ap not c.if-not-is_known-2.false) _ c.type_of.ensures
    _ _ _ _ _ _ _ _ _ c.if-type_of-act.false c.requires.known c.requires.tables.cell_room
    c.continuation-follows.ensures c.under_cell-process.ensures c.bind.ensures c.with_cell-wider.ensures c.replace.ensures
    (outcome_taken _ _ _ c.in-Some-replace.is)
