-- By the tree of the kind, or by its absence.
use Rattle.std.proofs.Common.{rules}
use Rattle.fit.proofs.EntryLaws.{in_tree, no_tree}
use Rattle.fit.proofs.Case.entry_fault.Goals as goal

pub returns-in-Some : goal.returns-in-Some
returns-in-Some c = in_tree _ _ _ _ _ _ _ _ c.if-not-has_entry.ensures (search rules) c.args.self.now.policy.bounded c.tree_of.ensures.whole
    c.in-Some.tree c.in-Some.ensures.value _ c.tree_fault.ensures

pub returns-in-None : goal.returns-in-None
returns-in-None c = no_tree _ _ _ _ _ _ _ _ c.if-not-has_entry.ensures (search rules) c.args.self.now.policy.bounded c.tree_of.ensures.whole c.in-None.ensures.value
