-- The walk's answer decides questions 7 to 10, then the charter's decides 11 to 18; the table holds the interface either way.
use Rattle.service.proofs.JudgeSteps.{judging, short_charter, some_bounded, few_components, typing_passes}
use Rattle.service.proofs.judging.judge_read.Goals as goal

pub invariant_of-result-clause-few : goal.invariant_of-result-clause-few
invariant_of-result-clause-few c = few_components _ _ _ _ _ c.requires.ready c.infer-found.ensures

pub invariant_of-result-clause-bounded : goal.invariant_of-result-clause-bounded
invariant_of-result-clause-bounded c = λ past. some_bounded _ c.no_trees.ensures

pub returns-in-Some : goal.returns-in-Some
returns-in-Some c = search judging

pub judge_with-requires : goal.judge_with-requires
judge_with-requires c = (few_components _ _ _ _ _ c.requires.ready c.infer-found.ensures, short_charter _ _ _ c.requires.ready, c.requires.cells)

pub returns : goal.returns
returns c = typing_passes _ _ _ _ _ c.requires.ready c.infer-found.ensures _ _ c.in_default.not-Some c.judge_with.ensures
