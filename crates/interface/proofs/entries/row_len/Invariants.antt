-- What is summed and what the kinds left would add are all, at most 37 a kind, so that the sum fits.
use Rattle.interface.proofs.WriteLaws.{Counting}
use Rattle.interface.specs.Writes.{entry_bytes_at}
use Rattle.interface.proofs.entries.row_len.Given as goal

abbrev pub invariant-loop-kind : goal.invariant-loop-kind
invariant-loop-kind l = Counting (entry_bytes_at l.row.table.now l.row.component) 37 16 l.len l.kind
