-- Demand 3: from an accepted sheet and charter, every state of every run, of any length and whatever its moves (refused ones
-- included), is typed and not beyond the start; no thread's next act is an error; and the components of a class, which share one
-- count, never together have disclosed and still infer more than a finite count that the charter has for their paths.
--
-- `judged` is the definition that the contracts of the services cite for questions 1 to 18. Each state of a run is
-- `run_states (start sheet) ms` for the list `ms` of the moves so far.
use Prim.Native.Nat.{ℕ, ◌<◌}
use mathlib.Core.Bool.{true}
use mathlib.Core.List.{List, Memᴰ}
use mathlib.Core.Path.{◌≡◌}
use Rattle.inference.specs.Acts.{Located, located, sheet_acts}
use Rattle.inference.specs.Classes.{shares}
use Rattle.inference.specs.Needs.{disclosed}
use Rattle.inference.proofs.ClassLaws.{shares_self}
use Rattle.fit.specs.Grants.{count_granted}
use Rattle.service.specs.Questions.{Accepted, judged, passed}
use Rattle.running.specs.Products.{start}
use Rattle.running.specs.Moves.{Move}
use Rattle.running.specs.Guarantees.{state_acts, acts_where, is_number, of_component, disclosed_where, disclosed_by, is_within, reached, Guaranteed}
use Rattle.running.proofs.Accepted.{accepted_typed, accepted_fine, accepted_class}
use Rattle.running.proofs.Homes.{run_located}
use Rattle.running.proofs.Runs.{run_named, run_typed, run_fine, run_not_beyond, counts_where, within_grant}
use Rattle.running.proofs.Parts.{part_within, same_number}

pub guaranteed : (sheet charter : List ℕ) (a : Accepted) → judged sheet charter ≡ passed a → (ms : List Move) → Guaranteed a ms
guaranteed sheet charter a accepted ms = record {
  named = run_named a.sheet ms (accepted_typed sheet charter a accepted);
  placed = run_located a.sheet ms;
  typed = run_typed a.sheet ms (accepted_typed sheet charter a accepted);
  not_beyond = run_not_beyond a.sheet ms (accepted_typed sheet charter a accepted);
  error_free = run_fine a.policy a.sheet ms (accepted_fine sheet charter a accepted);
  within = λ l member k h below₁₆ below₆₄.
      within_grant (count_granted h a.policy k l.component) (disclosed_where (shares l.component) k h (start a.sheet) ms)
      (disclosed k h (acts_where (shares l.component) (state_acts (reached a ms)))) (disclosed k h (acts_where (shares l.component) (sheet_acts a.sheet)))
      (counts_where a.sheet ms (accepted_typed sheet charter a accepted) (shares l.component) k h)
      (accepted_class sheet charter a accepted l member k h below₁₆ below₆₄);
}

-- So no component by itself ever has disclosed and still infers more than that count: document 01's limit, which follows from the class's.
pub within_each : (sheet charter : List ℕ) (a : Accepted) → judged sheet charter ≡ passed a → (ms : List Move)
    → (l : Located) → Memᴰ l (located a.sheet) → (kind group : ℕ) → kind < 16 → group < 64
    → is_within (count_granted group a.policy kind l.component)
    (disclosed_by l.component.number kind group (start a.sheet) ms)
    (disclosed kind group (of_component l.component.number (state_acts (reached a ms))))
    ≡ true
unfolding disclosed_by of_component
within_each sheet charter a accepted ms l member k h below₁₆ below₆₄ =
    part_within a.sheet ms (accepted_typed sheet charter a accepted) (is_number l.component.number) (shares l.component) k h
    (same_number a.sheet l member (shares l.component) (shares_self l.component))
    (count_granted h a.policy k l.component)
    ((guaranteed sheet charter a accepted ms).within l member k h below₁₆ below₆₄)
