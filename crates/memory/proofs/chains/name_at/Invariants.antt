-- The name sought is that at the same level of the chain that is left.
use Rattle.memory.proofs.ChainSteps.{Sought}
use Rattle.memory.proofs.chains.name_at.Given as goal

abbrev pub invariant-loop-passed : goal.invariant-loop-passed
invariant-loop-passed l = Sought l.cells l.names l.env l.level l._passed l.cell
