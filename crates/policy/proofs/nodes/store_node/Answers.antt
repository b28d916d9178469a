-- `store_node` stores the six cells of a row, one after another.
use Rattle.policy.proofs.NodeLaws.{six_stores}
use Rattle.policy.proofs.nodes.store_node.Goals as goal

pub returns : goal.returns
returns c = six_stores _ _ _ _ _ _ _ _ _ c.put.ensures
    c.put-2.ensures
    c.put-3.ensures
    c.put-4.ensures
    c.put-5.ensures
    c.put-6.ensures
