-- What is summed and what the components left would add are all, at most 592 a component, so that the sum fits.
use Rattle.interface.proofs.WriteLaws.{Counting}
use Rattle.interface.proofs.InterfaceLaws.{row_bytes_at}
use Rattle.interface.proofs.interface_len.Given as goal

abbrev pub invariant-loop-component : goal.invariant-loop-component
invariant-loop-component l = Counting (row_bytes_at l.table) 592 l.components l.len l.component
