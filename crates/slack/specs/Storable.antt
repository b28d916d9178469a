-- Verdicts whose sums two bytes hold: as numbers they are below 65,536.
use Rattle.std.specs.Prelude.{ℕ, ◌<◌, Bool, List, [], ◌∷◌}
use Rattle.inference.specs.Counts.{Count, count_number}
use Rattle.inference.specs.Interface.{Permission}
use Rattle.fit.specs.Satisfies.{Verdict, flag, counts}

pub data Storable : List Verdict → Type 0 where
  storable_none : Storable []
  storable_flag : {p : Permission} {b : Bool} {rest : List Verdict} → Storable rest → Storable (flag p b ∷ rest)
  storable_counts : {h : ℕ} {needed granted : Count} {rest : List Verdict} → count_number needed < 65536 → count_number granted < 65536
      → Storable rest → Storable (counts h needed granted ∷ rest)
