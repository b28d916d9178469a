-- Components that share one count (document 02, Q-4 and Q-6).
use Rattle.std.specs.Prelude.{ℕ, List, Bool, ◌&&◌, eqb}
use Rattle.reading.specs.Forms.{member}
use Rattle.inference.specs.Lists.{every}
use Rattle.inference.specs.Acts.{Component}

-- Each group of a path is in another.
unfoldable pub all_in : List ℕ → List ℕ → Bool
all_in path other = every (λ g. member g other) path

-- Two paths have the same groups, in any order.
unfoldable pub same_set : List ℕ → List ℕ → Bool
same_set path other = all_in path other && all_in other path

-- "posts whose paths have the same groups, in any order, share one count"; from Q-6 on a shared count belongs "to path and purpose". The
-- components that share with one are its class.
unfoldable pub shares : Component → Component → Bool
shares c d = same_set c.path d.path && eqb c.purpose d.purpose
