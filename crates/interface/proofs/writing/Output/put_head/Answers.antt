-- An entry up to its map: its kind, path, purpose and map, stored one after the other.
use Rattle.std.proofs.Common.{◌≡◌, length}
use Rattle.std.specs.Prelude.{◌∷◌}
use Rattle.inference.specs.Rows.{path_at, purpose_at}
use Rattle.interface.specs.Writes.{Stored}
use Rattle.interface.proofs.InterfaceSteps.{head_written}
use Rattle.interface.proofs.writing.Output.put_head.Goals as goal

pub returns-clause-stored : goal.returns-clause-stored
returns-clause-stored c =
    let path : Stored c.put.new.self.bytes.now c.put_path.new.self.bytes.now c.put.new.self.next
    (length (path_at c.args.entry.table.now c.args.entry.component) ∷ path_at c.args.entry.table.now c.args.entry.component) c.put_path.new.self.next =
    rw (c.row-row.ensures.same_table, c.row-row.ensures.same_component) at c.put_path.ensures.stored in
    let purpose : c.purpose.result ≡ purpose_at c.args.entry.table.now c.args.entry.component =
    rw (c.row-row.ensures.same_table, c.row-row.ensures.same_component) at c.purpose.ensures in
    head_written _ _ _ _ _ _ _ purpose c.requires.0 c.put.ensures.stored path c.put-2.ensures.stored c.put-3.ensures.stored
