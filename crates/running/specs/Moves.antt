-- Moves, their refusals 30 to 35 in order, their effect and their records.
use Prim.Native.Nat.{ℕ, ◌+◌, ◌/◌, ◌%◌}
use Rattle.std.specs.Prelude.{List, [], ◌∷◌, ◌++◌, map, Bool, true, false, cond, ◌&&◌, length, get_or, set, replicate, leb, eqb}
use Rattle.std.proofs.Math.Option.{Option, some, none}
use Rattle.std.proofs.Math.ListN.{get_elem?}
use Rattle.reading.specs.Syntax.{Process, nil, par, new, input, output, repl}
use Rattle.inference.specs.Lists.{gather}
use Rattle.inference.specs.Acts.{Component}
use Rattle.running.specs.State.{Thread, State}
use Rattle.running.specs.Products.{news, threads_of}

-- "Moves (i, j threads, one byte): 01 i copy; 02 i send outside; 03 i v receive v from outside; 04 i j meet, i sending and j
-- receiving; 05 type: the outside makes a known name."
pub data Move : Type 0 where
  -- the unfolding of a replication (document 01: a copy)
  unfold_repl : ℕ → Move
  -- an output to the environment (document 01: the outside), and an input from it
  send_out : ℕ → Move
  receive_in : ℕ → ℕ → Move
  -- a communication (document 01: a meeting)
  communicate : ℕ → ℕ → Move
  -- a name made by the environment
  environment_name : ℕ → Move

-- What a move does: it is refused with a number, or taken with the state after it and its record.
pub data Result : Type 0 where
  refuses : ℕ → Result
  takes : State → List ℕ → Result

-- "asked in this order, the first that fails giving its number"
unfoldable pub guard : ℕ → Bool → Result → Result
guard number true rest = rest
guard number false rest = refuses number

unfoldable pub given : {A : Type 0} → ℕ → Option A → (A → Result) → Result
given number none f = refuses number
given number (some a) f = f a

-- The prefix of a thread (document 01: the form it stands at), a send, receive or repeat, with run names for its own: "31 right
-- form?" What follows it is its continuation (document 01: its sequel).
pub record Sending : Type 0 where
  pub channel : ℕ
  pub sent : ℕ
  pub continuation : Process

pub record Receiving : Type 0 where
  pub channel : ℕ
  pub bound : ℕ
  pub continuation : Process

-- 65,535 is never met in a run of an accepted sheet: every level that an act uses is in scope (`typed` of `Guaranteed`, question 7),
-- and so has a run name.
unfoldable pub run_name : Thread → ℕ → ℕ
run_name t level = get_or t.names level 65535

unfoldable pub as_sending : Thread → Process → Option Sending
as_sending t nil = none
as_sending t (par p q) = none
as_sending t (new u p) = none
as_sending t (input x u p) = none
as_sending t (output x y p) = some (record { channel = run_name t x; sent = run_name t y; continuation = p })
as_sending t (repl p) = none

unfoldable pub as_receiving : Thread → Process → Option Receiving
as_receiving t nil = none
as_receiving t (par p q) = none
as_receiving t (new u p) = none
as_receiving t (input x u p) = some (record { channel = run_name t x; bound = u; continuation = p })
as_receiving t (output x y p) = none
as_receiving t (repl p) = none

unfoldable pub as_repeat : Process → Option Process
as_repeat nil = none
as_repeat (par p q) = none
as_repeat (new u p) = none
as_repeat (input x u p) = none
as_repeat (output x y p) = none
as_repeat (repl p) = some p

-- 32: known to the environment (document 01: known outside); a name never given is not.
unfoldable pub environment_knows : State → ℕ → Bool
environment_knows s n = get_or s.known n false

-- "Products stand in their thread's place": the products of a process of thread i, where `before` new names come first.
unfoldable pub made : State → ℕ → Thread → List ℕ → Process → List Thread
made s before t names p = threads_of t.component names (length s.types + before) p

unfoldable pub singles : List Thread → List (List Thread)
singles ts = map (λ t. t ∷ []) ts

unfoldable pub join : List (List Thread) → List Thread
join ts = gather (λ l. l) ts

-- the state with threads in place of others and new names that are not known to the environment
unfoldable pub after : State → List (List Thread) → List ℕ → State
after s threads types = record {
  threads = join threads;
  types = s.types ++ types;
  known = s.known ++ replicate (length types) false;
}

unfoldable pub now_known : ℕ → State → State
now_known n s = record { threads = s.threads; types = s.types; known = set s.known n true }

-- 35: "room for 64 threads and 1,024 names afterwards?"
unfoldable pub has_room : State → Bool
has_room s = leb (length s.threads) 64 && leb (length s.types) 1024

-- "A record: 00; label; channel and name, two bytes each; acting post, receiver's post. Absent fields are all ones."
-- Names are at most 1,024 (35), so that two bytes hold each.
unfoldable pub word : ℕ → List ℕ
word n = n % 256 ∷ n / 256 % 256 ∷ []

unfoldable pub record_of : ℕ → ℕ → ℕ → ℕ → ℕ → List ℕ
record_of label channel name actor receiver = 0 ∷ label ∷ (word channel ++ (word name ++ (actor ∷ receiver ∷ [])))

unfoldable pub taken : State → List ℕ → Result
taken s bytes = guard 35 (has_room s) (takes s bytes)

-- 01: "the repeated process's products go before the repeat".
unfoldable pub unfold_step : State → ℕ → Result
unfold_step s i =
    given 30 (get_elem? s.threads i) (λ t. given 31 (as_repeat t.process) (λ p.
    taken (after s (set (singles s.threads) i (made s 0 t t.names p ++ (t ∷ []))) (news p))
    (record_of 6 65535 65535 t.component.number 255)))

-- 02: "send outside, the name sent becoming known"; label 3, or 4 for a name not known before.
unfoldable pub send_step : State → ℕ → Result
send_step s i =
    given 30 (get_elem? s.threads i) (λ t. given 31 (as_sending t t.process) (λ a.
    guard 32 (environment_knows s a.channel)
    (taken (now_known a.sent (after s (set (singles s.threads) i (made s 0 t t.names a.continuation)) (news a.continuation)))
    (record_of (cond (environment_knows s a.sent) 3 4) a.channel a.sent t.component.number 255))))

-- 03: "receive v from outside"; label 2. 33 never meets the type 0 of a name without one: a name known to the environment (32) has been
-- given, with its type.
unfoldable pub receive_step : State → ℕ → ℕ → Result
receive_step s i v =
    given 30 (get_elem? s.threads i) (λ t. given 31 (as_receiving t t.process) (λ a.
    guard 32 (environment_knows s a.channel && environment_knows s v)
    (guard 33 (eqb (get_or s.types v 0) a.bound)
    (taken (after s (set (singles s.threads) i (made s 0 t (t.names ++ (v ∷ [])) a.continuation)) (news a.continuation))
    (record_of 2 a.channel v t.component.number 255)))))

-- 04: "meet, i sending and j receiving"; label 1. "in a meeting the sender's new names come first".
unfoldable pub communicate_step : State → ℕ → ℕ → Result
communicate_step s i j =
    given 30 (get_elem? s.threads i) (λ t. given 30 (get_elem? s.threads j) (λ u.
    given 31 (as_sending t t.process) (λ a. given 31 (as_receiving u u.process) (λ b.
    guard 34 (eqb a.channel b.channel)
    (taken
    (after s
    (set (set (singles s.threads) i (made s 0 t t.names a.continuation)) j
    (made s (length (news a.continuation)) u (u.names ++ (a.sent ∷ [])) b.continuation))
    (news a.continuation ++ news b.continuation))
    (record_of 1 a.channel a.sent t.component.number u.component.number))))))

-- 05: "the outside makes a known name"; label 5.
unfoldable pub environment_step : State → ℕ → Result
environment_step s t =
    taken (now_known (length s.types) (after s (singles s.threads) (t ∷ [])))
    (record_of 5 65535 (length s.types) 255 255)

unfoldable pub step : State → Move → Result
step s (unfold_repl i) = unfold_step s i
step s (send_out i) = send_step s i
step s (receive_in i v) = receive_step s i v
step s (communicate i j) = communicate_step s i j
step s (environment_name t) = environment_step s t

-- "A refused move changes nothing and play goes on." "A refused move: its number, seven zeros."
unfoldable pub state_after : State → Result → State
state_after s (refuses n) = s
state_after s (takes s' bytes) = s'

unfoldable pub record_bytes : Result → List ℕ
record_bytes (refuses n) = n ∷ replicate 7 0
record_bytes (takes s bytes) = bytes

-- A run over a list of moves: "Each move gets the state that the last one left."
unfoldable pub run_states : State → List Move → State
run_states s [] = s
run_states s (m ∷ ms) = run_states (state_after s (step s m)) ms

unfoldable pub run_log : State → List Move → List ℕ
run_log s [] = []
run_log s (m ∷ ms) = record_bytes (step s m) ++ run_log (state_after s (step s m)) ms
