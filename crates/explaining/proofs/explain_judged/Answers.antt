-- Passed, refused by another question, or by 18: the three cases of the definition.
use borrow.Author.Rules.{rules}
use Rattle.explaining.proofs.ExplainSteps.{nothing_explained, other_question, eighteen}
use Rattle.explaining.proofs.explain_judged.Goals as goal

pub returns-in_default : goal.returns-in_default
returns-in_default c = λ sheet reads judges. nothing_explained sheet _ _ _ _ _ _ c.in_default.not-Some reads judges

pub returns-in_default-question : goal.returns-in_default-question
returns-in_default-question c = λ sheet reads judges. other_question sheet _ _ _ _ _ _ _ c.in-Some.is (search rules) reads judges

pub returns : goal.returns
returns c = λ sheet reads judges. eighteen sheet _ _ _ _ _ _ _ c.in-Some.is (search rules) _ _ c.explain_missing.ensures reads judges
