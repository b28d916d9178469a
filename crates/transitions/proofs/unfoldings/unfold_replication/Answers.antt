-- `unfold_replication`: 30, then 31 for each form that is no repeat, then the products in place before the repeat, or 35 (UnfoldSteps.antt).
use mathlib.Core.Path.{ap, ◌∙◌}
use Rattle.std.specs.Prelude.{Some}
use Rattle.transitions.proofs.OutcomeSteps.{never, outcome_taken, outcome_full}
use Rattle.transitions.proofs.UnfoldSteps.{unfold_no_thread, unfold_other, unfold_repeats}
use Rattle.transitions.proofs.unfoldings.unfold_replication.Goals as goal

pub returns-then-sizes-i : goal.returns-then-sizes-i
returns-then-sizes-i c = unfold_no_thread _ _ _ _ _ _ c.requires.thread_room c.if-sizes-i.true

pub returns-in_default : goal.returns-in_default
returns-in_default c =
    unfold_other _ _ _ _ _ _ c.requires.thread_room _ _ c.if-sizes-i.false c.thread_at-thread.ensures c.prefix_of.ensures
    (λ next q. c.in_default.not-Some _ q)

pub returns-in_default-prefix : goal.returns-in_default-prefix
returns-in_default-prefix c =
    unfold_other _ _ _ _ _ _ c.requires.thread_room _ _ c.if-sizes-i.false c.thread_at-thread.ensures c.prefix_of.ensures
    (λ next q. never c.in-Some.is (c.in_default-prefix.not-Repeats next) q)

pub returns-in_default-replace : goal.returns-in_default-replace
returns-in_default-replace c =
    unfold_repeats _ _ _ _ _ _ c.requires.thread_room _ _ c.if-sizes-i.false c.thread_at-thread.ensures c.prefix_of.ensures
    _ (c.in-Some.is ∙ ap Some c.in-Repeats.is) _ _ _ _ _ _ c.continuation-copy.ensures c.replace.ensures
    (outcome_full _ _ c.in_default-replace.not-Some)

pub returns : goal.returns
returns c =
    unfold_repeats _ _ _ _ _ _ c.requires.thread_room _ _ c.if-sizes-i.false c.thread_at-thread.ensures c.prefix_of.ensures
    _ (c.in-Some.is ∙ ap Some c.in-Repeats.is) _ _ _ _ _ _ c.continuation-copy.ensures c.replace.ensures
    (outcome_taken _ _ _ c.in-Some-replace.is)
