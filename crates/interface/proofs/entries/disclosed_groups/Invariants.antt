-- What is counted and what the groups left would add are all, and no group adds more than one.
use Rattle.inference.specs.Rows.{group_count}
use Rattle.interface.proofs.WriteLaws.{Counting}
use Rattle.interface.proofs.InterfaceLaws.{disclosed_to}
use Rattle.interface.proofs.entries.disclosed_groups.Given as goal

abbrev pub invariant-loop-place : goal.invariant-loop-place
invariant-loop-place l = Counting (disclosed_to l.entry.table.now l.entry.component l.entry.kind) 1 (group_count l.entry.table.now l.entry.component) l.disclosed l.place
