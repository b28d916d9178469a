-- The length of an entry: none where its kind is not marked or its map is 0, else its head, its path and its list.
use Rattle.std.proofs.Common.{◌≡◌, ◌∙◌, ap, length, not}
use Rattle.inference.specs.Rows.{path_at}
use Rattle.interface.proofs.InterfaceSteps.{entry_len_some}
use Rattle.interface.proofs.entries.entry_len.Goals as goal

pub returns : goal.returns
returns c =
    let path : c.groups.result.now ≡ path_at c.args.entry.table.now c.args.entry.component =
    rw (c.row.ensures.same_table, c.row.ensures.same_component) at (c.groups.ensures ∙ c.path.ensures) in
    entry_len_some _ _ _ _ c.is_used.ensures _ _ _ _ (ap not c.if-not-is_used.false) c.permission_map.ensures c.if-permission_map-eq0.false (ap length path)
    c.disclosed_groups-groups.ensures.value c.list_len.ensures.value
