-- The theorems on runs, as the functions of the crate state them: from an accepted sheet and charter, every state of every run, of
-- any length and whatever its moves (refused ones included).
use Rattle.std.specs.Prelude.{ℕ, ◌<◌, ◌≡◌, List, true}
use mathlib.Core.List.{Memᴰ}
use Rattle.inference.specs.Acts.{Located, located}
use Rattle.inference.specs.Needs.{disclosed}
use Rattle.fit.specs.Grants.{count_granted}
use Rattle.service.specs.Questions.{Accepted, judged, passed}
use Rattle.running.specs.Products.{start}
use Rattle.running.specs.Moves.{Move}
use Rattle.running.specs.Guarantees.{state_acts, of_component, disclosed_by, is_within, reached, Guaranteed}

-- is typed and not beyond the start, no thread's next act is an error, and no class exceeds its count
abbrev pub AlwaysGuaranteed : Type 0
AlwaysGuaranteed = (sheet charter : List ℕ) (a : Accepted) → judged sheet charter ≡ passed a → (ms : List Move) → Guaranteed a ms

-- and no component by itself exceeds the count of its class
abbrev pub AlwaysWithinEach : Type 0
AlwaysWithinEach =
    (sheet charter : List ℕ) (a : Accepted) → judged sheet charter ≡ passed a → (ms : List Move)
    → (l : Located) → Memᴰ l (located a.sheet) → (kind group : ℕ) → kind < 16 → group < 64
    → is_within (count_granted group a.policy kind l.component)
    (disclosed_by l.component.number kind group (start a.sheet) ms)
    (disclosed kind group (of_component l.component.number (state_acts (reached a ms))))
    ≡ true
