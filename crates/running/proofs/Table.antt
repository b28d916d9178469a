-- Document 01's table, "Proved, as one table", whole: the rows of `check`, and the two rows with a script.
use mathlib.Core.List.{List, [], ◌∷◌, map}
use mathlib.Core.Path.{◌≡◌, refl}
use Rattle.service.proofs.Computed.{got as checked, wanted as answered}
use Rattle.service.proofs.Table.{w, w_charter, table, table_holds}
use Rattle.running.proofs.Cases.{Row, row, got, wanted}
use Rattle.running.proofs.Computed.{played_computed}

pub scripts : List Row
scripts =
    -- document 01's script on W: a communication, a name of the environment, a receive from the environment
    row w w_charter (0x04 ∷ 0x00 ∷ 0x01 ∷ 0x05 ∷ 0x00 ∷ 0x00 ∷ 0x03 ∷ 0x00 ∷ 0x02 ∷ 0x00 ∷ []) (0x00 ∷ 0x01 ∷ 0x00 ∷ 0x00 ∷ 0x01 ∷ 0x00 ∷ 0x00 ∷ 0x01 ∷ 0x00 ∷ 0x05 ∷ 0xFF ∷ 0xFF ∷ 0x02 ∷ 0x00 ∷ 0xFF ∷ 0xFF ∷ 0x00 ∷ 0x02 ∷ 0x01 ∷ 0x00 ∷ 0x02 ∷ 0x00 ∷ 0x01 ∷ 0xFF ∷ []) ∷
    -- document 01's second script: v is not of the bound type (33)
    row w w_charter (0x03 ∷ 0x01 ∷ 0x00 ∷ 0x00 ∷ []) (0x21 ∷ 0x00 ∷ 0x00 ∷ 0x00 ∷ 0x00 ∷ 0x00 ∷ 0x00 ∷ 0x00 ∷ []) ∷
    []

scripts_hold : map got scripts ≡ map wanted scripts
unfolding played_computed scripts
scripts_hold = refl

pub whole_table : (map checked table ≡ map answered table) × (map got scripts ≡ map wanted scripts)
whole_table = (table_holds, scripts_hold)
