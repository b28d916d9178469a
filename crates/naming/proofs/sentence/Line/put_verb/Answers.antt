-- Each arm of the match is one verb; the last adds the group's name.
use Rattle.naming.proofs.SentenceSteps.{sentence_steps}
use Rattle.naming.proofs.sentence.Line.put_verb.Goals as goal

pub returns-in-Read-clause-put : goal.returns-in-Read-clause-put
returns-in-Read-clause-put c = search sentence_steps

pub returns-in-Write-clause-put : goal.returns-in-Write-clause-put
returns-in-Write-clause-put c = search sentence_steps

pub returns-in-Access-clause-put : goal.returns-in-Access-clause-put
returns-in-Access-clause-put c = search sentence_steps

pub returns-in-Disclose-clause-put : goal.returns-in-Disclose-clause-put
returns-in-Disclose-clause-put c = search sentence_steps
