-- Four parts one after another.
use Rattle.std.proofs.Common.{rules}
use Rattle.naming.proofs.SentenceSteps.{sentence_said}
use Rattle.naming.proofs.sentence.Names.put_sentence.Goals as goal

pub returns : goal.returns
returns c = sentence_said _ _ _ _ _ _ _ _ _ _ _ _ (search rules) c.put_path.ensures.put c.put.ensures c.put_verb.ensures.put c.put_kind.ensures
