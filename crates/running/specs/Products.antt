-- What a process makes at once: "Nothing-forms vanish, parallel forms split in order, new names take the next unused number and are
-- never given again. A thread is a receive, send or repeat."
use Rattle.std.specs.Prelude.{ℕ, ◌+◌, List, [], ◌∷◌, ◌++◌, true, false, length, replicate}
use Rattle.reading.specs.Syntax.{Process, nil, par, new, input, output, repl, System, nilₛ, parₛ, groupₛ, newₛ, compₛ, Sheet, components}
use Rattle.inference.specs.Lists.{rising}
use Rattle.inference.specs.Acts.{Component, component_at}
use Rattle.running.specs.State.{Thread, State}

-- the types of the new names that a process makes at once
unfoldable pub news : Process → List ℕ
news nil = []
news (par p q) = news p ++ news q
news (new t p) = t ∷ news p
news (input x t p) = []
news (output x y p) = []
news (repl p) = []

-- its threads, where `next` is the next unused number
unfoldable pub threads_of : Component → List ℕ → ℕ → Process → List Thread
threads_of c names next nil = []
threads_of c names next (par p q) = threads_of c names next p ++ threads_of c names (next + length (news p)) q
threads_of c names next (new t p) = threads_of c (names ++ (next ∷ [])) (next + 1) p
threads_of c names next (input x t p) = record { component = c; names = names; process = input x t p } ∷ []
threads_of c names next (output x y p) = record { component = c; names = names; process = output x y p } ∷ []
threads_of c names next (repl p) = record { component = c; names = names; process = repl p } ∷ []

-- the same of a system, in sheet order; `number` is that of its first component
unfoldable pub system_news : System → List ℕ
system_news nilₛ = []
system_news (parₛ l r) = system_news l ++ system_news r
system_news (groupₛ g p) = system_news p
system_news (newₛ t p) = t ∷ system_news p
system_news (compₛ own p) = news p

unfoldable pub system_threads : ℕ → List ℕ → List ℕ → ℕ → System → List Thread
system_threads number path names next nilₛ = []
system_threads number path names next (parₛ l r) =
    system_threads number path names next l
    ++ system_threads (number + components l) path names (next + length (system_news l)) r
system_threads number path names next (groupₛ g p) = system_threads number (path ++ (g ∷ [])) names next p
system_threads number path names next (newₛ t p) = system_threads number path (names ++ (next ∷ [])) (next + 1) p
system_threads number path names next (compₛ own p) = threads_of (component_at number path own) names next p

-- "The start is the free names with their types and what the sheet's system makes of threads and new names." "Only free names are
-- known outside at the start."
unfoldable pub start : Sheet → State
start sheet = record {
  threads = system_threads 0 [] (rising 0 (length sheet.free)) (length sheet.free) sheet.system;
  types = sheet.free ++ system_news sheet.system;
  known = replicate (length sheet.free) true ++ replicate (length (system_news sheet.system)) false;
}
