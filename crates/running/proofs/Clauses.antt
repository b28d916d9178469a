-- Worked cases of each clause of demand 3: a state, a list of acts or a history in which the clause holds, and beside it one in
-- which it fails. None of the failing ones can be reached from an accepted sheet (`guaranteed`); they show that each clause asks
-- for something. The cases are about example W: component 0 sends name 1 on name 0, component 1 receives it; the last ones are about
-- three components that send, two of which share a count.
use Prim.Native.Nat.{ℕ}
use mathlib.Core.Bool.{Bool, true, false}
use mathlib.Core.List.{List, [], ◌∷◌, map}
use mathlib.Core.Path.{◌≡◌, refl}
use native.Mathlib.Omega.{arith}
use Rattle.reading.specs.Syntax.{Process, nil, input, output, repl, parₛ, groupₛ, compₛ, Sheet}
use Rattle.inference.specs.Counts.{Count, fin, unlimited}
use Rattle.inference.specs.Acts.{Component, Act}
use Rattle.inference.specs.Classes.{all_in, same_set, shares}
use Rattle.inference.specs.Needs.{disclosed}
use Rattle.fit.specs.Grants.{count_granted}
use Rattle.policy.specs.Syntax.{Permissions, Tree, none, more}
use Rattle.running.specs.State.{Thread, State}
use Rattle.running.specs.Products.{start}
use Rattle.running.specs.Moves.{Move, send_out, communicate, run_states}
use Rattle.running.specs.Guarantees.{scope_of, all_named, same_groups, same_component, is_component_of, all_located, thread_acts, state_acts, passes, is_typed, acts_where, is_number, of_component, NotBeyond, next_of, next_act, grants_need, is_fine, next_fine, no_error, act_at, send_of, is_taken, disclosures_of_act, disclosed_where, disclosed_by, is_within}
use Rattle.running.proofs.Computed.{played_computed}

-- all definitions that these cases compute with
unfoldable guarantees_computed : Unit {0}
unfolding played_computed all_in same_set shares scope_of all_named same_groups same_component is_component_of all_located thread_acts state_acts passes is_typed acts_where is_number of_component next_of next_act grants_need is_fine next_fine no_error act_at send_of is_taken disclosures_of_act disclosed_where disclosed_by is_within
guarantees_computed = tt

-- W: name 0 is a channel of links, 0[0[0]], whose number is 1,040; name 1 is a link, 0[0], whose number is 16.
abbrev sending : Process
sending = output 0 1 nil

abbrev receiving : Process
receiving = input 0 16 (input 2 0 nil)

abbrev w : Sheet
w = record { free = 1040 ∷ 16 ∷ []; system = groupₛ 0 (parₛ (compₛ (record { group = 1; purpose = 0 }) sending) (compₛ (record { group = 2; purpose = 0 }) receiving)) }

-- W's charter with permissions for node 1: W's own, and none.
abbrev charter : Permissions → List Tree
charter own =
    record {
      kind = 0;
      root = record {
        group = 0;
        permissions = record { map = 8; list = []; purposes = 65535 };
        below = more 1 own none (more 2 (record { map = 5; list = []; purposes = 65535 }) none none);
      };
    } ∷ []

abbrev once : Permissions
once = record { map = 16; list = record { group = 0; count = 1 } ∷ []; purposes = 65535 }

abbrev never : Permissions
never = record { map = 0; list = []; purposes = 65535 }

abbrev thread : ℕ → List ℕ → List ℕ → Process → Thread
thread number path names p = record { component = record { number = number; path = path; purpose = 0 }; names = names; process = p }

abbrev state : List Thread → State
state threads = record { threads = threads; types = 1040 ∷ 16 ∷ []; known = true ∷ true ∷ [] }

abbrev sender : Thread
sender = thread 0 (0 ∷ 1 ∷ []) (0 ∷ 1 ∷ []) sending

abbrev receiver : Thread
receiver = thread 1 (0 ∷ 2 ∷ []) (0 ∷ 1 ∷ []) receiving

-- W's start is the state of these two threads.
start_w : start w ≡ state (sender ∷ receiver ∷ [])
unfolding guarantees_computed
start_w = refl

-- `named`: W's sender; the sender with run name 7, which was never given, for the link that it sends.
pub named_fails : map all_named (state (sender ∷ []) ∷ state (thread 0 (0 ∷ 1 ∷ []) (0 ∷ 7 ∷ []) sending ∷ []) ∷ []) ≡ true ∷ false ∷ []
unfolding guarantees_computed
named_fails = refl

-- `typed`: W's sender and receiver; a dangling name where a link is sent, and where plain data of kind 0 is sent; a channel of the
-- wrong type; a channel whose group is not in the path.
pub typed_fails :
    map is_typed (
    state (sender ∷ receiver ∷ []) ∷
    state (thread 0 (0 ∷ 1 ∷ []) (0 ∷ 7 ∷ []) sending ∷ []) ∷
    state (thread 0 (0 ∷ 1 ∷ []) (1 ∷ 7 ∷ []) sending ∷ []) ∷
    state (thread 0 (0 ∷ 1 ∷ []) (1 ∷ 1 ∷ []) sending ∷ []) ∷
    state (thread 0 (1 ∷ []) (0 ∷ 1 ∷ []) sending ∷ []) ∷ [])
    ≡ true ∷ false ∷ false ∷ false ∷ false ∷ []
unfolding guarantees_computed
typed_fails = refl

-- `placed`: W's threads; a thread with another path, with a wider one, and with another component's number.
pub placed_fails :
    map (all_located w) (
    state (sender ∷ receiver ∷ []) ∷
    state (thread 0 (0 ∷ 2 ∷ []) (0 ∷ 1 ∷ []) sending ∷ []) ∷
    state (thread 0 (0 ∷ 1 ∷ 2 ∷ []) (0 ∷ 1 ∷ []) sending ∷ []) ∷
    state (thread 1 (0 ∷ 1 ∷ []) (0 ∷ 1 ∷ []) sending ∷ []) ∷ [])
    ≡ true ∷ false ∷ false ∷ false ∷ []
unfolding guarantees_computed
placed_fails = refl

-- `error_free`: W's threads under W's charter; under one whose node 1 lacks the list; a next act with a dangling name; and a dangling
-- name behind a repeat, which has no next act.
pub error_found :
    no_error (charter once) (state (sender ∷ receiver ∷ []))
    ∷ no_error (charter never) (state (sender ∷ receiver ∷ []))
    ∷ no_error (charter once) (state (thread 0 (0 ∷ 1 ∷ []) (0 ∷ 7 ∷ []) sending ∷ []))
    ∷ no_error (charter once) (state (thread 0 (0 ∷ 1 ∷ []) (0 ∷ 7 ∷ []) (repl sending) ∷ [])) ∷ []
    ≡ true ∷ false ∷ false ∷ true ∷ []
unfolding guarantees_computed
error_found = refl

-- `not_beyond`: what W's receiver infers is not beyond itself; it is beyond a start that infers nothing, by its flag, and two
-- senders are beyond one, by their count.
abbrev inferred : List Thread → List Act
inferred threads = state_acts (state threads)

true_is_not_false : false ≡ true → ⊥
true_is_not_false h = let z : ◌≡◌ {A = ℕ} 0 1 = cc in omega arith

pub flag_beyond : NotBeyond (inferred (receiver ∷ [])) (inferred (sender ∷ [])) → ⊥
unfolding guarantees_computed
flag_beyond h = true_is_not_false (h.accesses 0 refl)

pub count_beyond : NotBeyond (inferred (sender ∷ sender ∷ [])) (inferred (sender ∷ [])) → ⊥
unfolding guarantees_computed
count_beyond h = true_is_not_false (h.counts 0 0)

-- `within`, where the charter's count is 1: one disclosed and none left, none disclosed and one left; two disclosed; two left; one
-- of each. And whatever there is where it is unlimited.
pub within_fails :
    is_within (fin 1) 1 (fin 0) ∷ is_within (fin 1) 0 (fin 1)
    ∷ is_within (fin 1) 2 (fin 0) ∷ is_within (fin 1) 0 (fin 2) ∷ is_within (fin 1) 1 (fin 1) ∷ is_within (fin 1) 0 unlimited
    ∷ is_within unlimited 2 unlimited ∷ []
    ≡ true ∷ true ∷ false ∷ false ∷ false ∷ false ∷ true ∷ []
unfolding guarantees_computed
within_fails = refl

-- What component 0 has disclosed and still infers along W's moves: at the start; after its communication; after one that is refused,
-- since the receiver is named as the sender; after an output to the environment, and a second one, which is refused.
abbrev along : List Move → List Count
along ms = fin (disclosed_by 0 0 0 (start w) ms) ∷ disclosed 0 0 (of_component 0 (state_acts (run_states (start w) ms))) ∷ []

pub counts_along :
    map along ([] ∷ (communicate 0 1 ∷ []) ∷ (communicate 1 0 ∷ []) ∷ (send_out 0 ∷ []) ∷ (send_out 0 ∷ send_out 0 ∷ []) ∷ [])
    ≡ (fin 0 ∷ fin 1 ∷ []) ∷ (fin 1 ∷ fin 0 ∷ []) ∷ (fin 0 ∷ fin 1 ∷ []) ∷ (fin 1 ∷ fin 0 ∷ []) ∷ (fin 1 ∷ fin 0 ∷ []) ∷ []
unfolding guarantees_computed
counts_along = refl

-- A sheet of three that send as W's component 0 does: the first two have the paths 0.1 and 1.0, and so share; the third has 0.1.2.
abbrev three : Sheet
three = record {
  free = 1040 ∷ 16 ∷ [];
  system = parₛ (groupₛ 0 (compₛ (record { group = 1; purpose = 0 }) sending)) (parₛ (groupₛ 1 (compₛ (record { group = 0; purpose = 0 }) sending)) (groupₛ 0 (groupₛ 1 (compₛ (record { group = 2; purpose = 0 }) sending))));
}

abbrev first : Component
first = record { number = 0; path = 0 ∷ 1 ∷ []; purpose = 0 }

abbrev second : Component
second = record { number = 1; path = 1 ∷ 0 ∷ []; purpose = 0 }

abbrev third : Component
third = record { number = 2; path = 0 ∷ 1 ∷ 2 ∷ []; purpose = 0 }

pub classes_told :
    map (shares first) (first ∷ second ∷ third ∷ []) ∷ map (shares second) (first ∷ second ∷ third ∷ []) ∷ map (shares third) (first ∷ second ∷ third ∷ []) ∷ []
    ≡ (true ∷ true ∷ false ∷ []) ∷ (true ∷ true ∷ false ∷ []) ∷ (false ∷ false ∷ true ∷ []) ∷ []
unfolding guarantees_computed
classes_told = refl

-- W's charter grants each of the three one.
pub classes_granted : map (count_granted 0 (charter once) 0) (first ∷ second ∷ third ∷ []) ≡ fin 1 ∷ fin 1 ∷ fin 1 ∷ []
unfolding guarantees_computed
classes_granted = refl

-- What the first has disclosed by itself, what its class has disclosed and what its class still infers: at the start; after an output
-- of the first, of the second, of both (the first's thread is then gone), and of the third.
abbrev shared_along : List Move → List Count
shared_along ms =
    fin (disclosed_by 0 0 0 (start three) ms) ∷ fin (disclosed_where (shares first) 0 0 (start three) ms)
    ∷ disclosed 0 0 (acts_where (shares first) (state_acts (run_states (start three) ms))) ∷ []

pub counts_shared :
    map shared_along ([] ∷ (send_out 0 ∷ []) ∷ (send_out 1 ∷ []) ∷ (send_out 0 ∷ send_out 0 ∷ []) ∷ (send_out 2 ∷ []) ∷ [])
    ≡ (fin 0 ∷ fin 0 ∷ fin 2 ∷ []) ∷ (fin 1 ∷ fin 1 ∷ fin 1 ∷ []) ∷ (fin 0 ∷ fin 1 ∷ fin 1 ∷ []) ∷ (fin 1 ∷ fin 2 ∷ fin 0 ∷ []) ∷ (fin 0 ∷ fin 0 ∷ fin 2 ∷ []) ∷ []
unfolding guarantees_computed
counts_shared = refl

-- `within` for a component and moves, by itself as in document 01, and with its class. Each of the three keeps to the count of 1 by
-- itself; the first two do not together, whether they still infer their links or have handed them over; the third does, whatever
-- they disclose.
abbrev alone : Component → List Move → Bool
alone c ms =
    is_within (count_granted 0 (charter once) 0 c) (disclosed_by c.number 0 0 (start three) ms)
    (disclosed 0 0 (of_component c.number (state_acts (run_states (start three) ms))))

abbrev together : Component → List Move → Bool
together c ms =
    is_within (count_granted 0 (charter once) 0 c) (disclosed_where (shares c) 0 0 (start three) ms)
    (disclosed 0 0 (acts_where (shares c) (state_acts (run_states (start three) ms))))

pub shared_fails :
    map (λ c. alone c (send_out 0 ∷ send_out 0 ∷ [])) (first ∷ second ∷ third ∷ [])
    ∷ map (λ c. together c (send_out 0 ∷ send_out 0 ∷ [])) (first ∷ second ∷ third ∷ [])
    ∷ map (λ c. together c []) (first ∷ second ∷ third ∷ []) ∷ []
    ≡ (true ∷ true ∷ true ∷ []) ∷ (false ∷ false ∷ true ∷ []) ∷ (false ∷ false ∷ true ∷ []) ∷ []
unfolding guarantees_computed
shared_fails = refl

-- Purposes (document 02, Q-6). A thread of W's sender with another purpose, and charters whose node 1 discloses once for purpose 0 alone and
-- for purpose 1 alone.
abbrev for : ℕ → Thread → Thread
for purpose t = record {
  component = record { number = t.component.number; path = t.component.path; purpose = purpose };
  names = t.names;
  process = t.process;
}

abbrev once_for : ℕ → Permissions
once_for purposes = record { map = 48; list = record { group = 0; count = 1 } ∷ []; purposes = purposes }

-- `placed`: the sender with its own purpose, and with another.
pub purpose_placed : map (all_located w) (state (for 0 sender ∷ []) ∷ state (for 1 sender ∷ []) ∷ []) ≡ true ∷ false ∷ []
unfolding guarantees_computed
purpose_placed = refl

-- `error_free`: the sender with purposes 0 and 1, each under both charters, and under one that grants for no purpose.
pub purpose_error :
    map (λ t. no_error (charter (once_for 1)) (state (t ∷ []))) (for 0 sender ∷ for 1 sender ∷ [])
    ∷ map (λ t. no_error (charter (once_for 2)) (state (t ∷ []))) (for 0 sender ∷ for 1 sender ∷ [])
    ∷ map (λ t. no_error (charter (once_for 0)) (state (t ∷ []))) (for 0 sender ∷ for 1 sender ∷ []) ∷ []
    ≡ (true ∷ false ∷ []) ∷ (false ∷ true ∷ []) ∷ (false ∷ false ∷ []) ∷ []
unfolding guarantees_computed
purpose_error = refl

-- A sheet of three that send alike, all of path 0.1: the first two with purpose 0, the third with purpose 1, which so does not share.
abbrev purposes : Sheet
purposes = record {
  free = 1040 ∷ 16 ∷ [];
  system = groupₛ 0 (parₛ (compₛ (record { group = 1; purpose = 0 }) sending) (parₛ (compₛ (record { group = 1; purpose = 0 }) sending) (compₛ (record { group = 1; purpose = 1 }) sending)));
}

abbrev ordinary : Component
ordinary = record { number = 0; path = 0 ∷ 1 ∷ []; purpose = 0 }

abbrev other : Component
other = record { number = 2; path = 0 ∷ 1 ∷ []; purpose = 1 }

pub purpose_classes : map (shares ordinary) (ordinary ∷ other ∷ []) ∷ map (shares other) (ordinary ∷ other ∷ []) ∷ [] ≡ (true ∷ false ∷ []) ∷ (false ∷ true ∷ []) ∷ []
unfolding guarantees_computed
purpose_classes = refl

-- `within`, where the charter's count is 1 for each purpose: the two of purpose 0 exceed it together, at the start and after an output of
-- one; the one of purpose 1 keeps to it, at the start and after its own output, whatever the others do. Were the purpose ignored, it would
-- not: the three of the path have disclosed one and still infer two.
abbrev kept : Component → List Move → Bool
kept c ms =
    is_within (count_granted 0 (charter once) 0 c) (disclosed_where (shares c) 0 0 (start purposes) ms)
    (disclosed 0 0 (acts_where (shares c) (state_acts (run_states (start purposes) ms))))

abbrev of_path : List Move → List Count
of_path ms =
    fin (disclosed_where (λ c. true) 0 0 (start purposes) ms) ∷ disclosed 0 0 (state_acts (run_states (start purposes) ms)) ∷ []

pub purpose_within :
    map (λ c. kept c []) (ordinary ∷ other ∷ []) ∷ map (λ c. kept c (send_out 0 ∷ [])) (ordinary ∷ other ∷ [])
    ∷ map (λ c. kept c (send_out 2 ∷ [])) (ordinary ∷ other ∷ []) ∷ []
    ≡ (false ∷ true ∷ []) ∷ (false ∷ true ∷ []) ∷ (false ∷ true ∷ []) ∷ []
unfolding guarantees_computed
purpose_within = refl

pub path_without : of_path (send_out 2 ∷ []) ≡ fin 1 ∷ fin 2 ∷ []
unfolding guarantees_computed
path_without = refl
