-- The process and the system that a table of decoded forms holds at a place.
use Rattle.std.specs.Prelude.{ℕ, zero, suc, List}
use Rattle.reading.specs.Syntax.{Process, nil, par, new, input, output, repl, System, nilₛ, parₛ, groupₛ, newₛ, compₛ}
use Rattle.reading.specs.declared.Form.{Form}
use Rattle.reading.specs.declared.Form.TheVariants.{Nil, Par, Group, New, Component, Input, Output, Replicate}
use Rattle.decoding.specs.Words.{item_at}

-- The process that begins with a form; `part` tells what stands at a later place, one level deeper.
unfoldable pub process_of : (ℕ → Process) → Form → ℕ → ℕ → Process
process_of part Nil next second = nil
process_of part Par next second = par (part next) (part second)
process_of part (New t) next second = new t (part next)
process_of part (Input a) next second = input a.channel a.object (part next)
process_of part (Output a) next second = output a.channel a.object (part next)
process_of part Replicate next second = repl (part next)
process_of part (Group g) next second = nil
process_of part (Component own) next second = nil

-- The process at a place, at most `nest` forms deep.
unfoldable pub process_in : ℕ → List ℕ → ℕ → Process
process_in zero forms at = nil
process_in (suc n) forms at =
    process_of (λ m. process_in n forms m) (item_at forms at).form (item_at forms at).next (item_at forms at).second

-- The same of a system; `process` tells the process at a later place.
unfoldable pub system_of : (ℕ → System) → (ℕ → Process) → Form → ℕ → ℕ → System
system_of part process Nil next second = nilₛ
system_of part process Par next second = parₛ (part next) (part second)
system_of part process (Group g) next second = groupₛ g (part next)
system_of part process (New t) next second = newₛ t (part next)
system_of part process (Component own) next second = compₛ own (process next)
system_of part process (Input a) next second = nilₛ
system_of part process (Output a) next second = nilₛ
system_of part process Replicate next second = nilₛ

unfoldable pub system_in : ℕ → List ℕ → ℕ → System
system_in zero forms at = nilₛ
system_in (suc n) forms at =
    system_of (λ m. system_in n forms m) (λ m. process_in n forms m) (item_at forms at).form (item_at forms at).next (item_at forms at).second
