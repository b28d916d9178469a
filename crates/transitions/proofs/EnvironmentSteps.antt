-- 05, return by return.
use Prim.Native.Nat.{ℕ, ◌+◌, ◌<◌, ◌≤◌}
use mathlib.Core.Path.{◌≡◌, refl, sym, ap, ◌∙◌}
use mathlib.Core.List.{List, [], ◌∷◌, ◌++◌}
use mathlib.Core.Bool.{Bool, true, false}
use native.Mathlib.Omega.{arith}
use native.Mathlib.Numerals.{add-one}
use borrow.Author.Tests.{le-leb, lt-leb}
use lib.Dec.{lit<}
use lib.ListN.{length, set, length-append}
use lib.Seq.{length-take-le, take-suc-set, set_at, get_or-set_other}
use Rattle.std.specs.Prelude.{Ok, Err}
use Rattle.running.specs.State.{State}
use Rattle.running.specs.Moves.{guard, after, now_known, has_room, taken, record_of, state_after, record_bytes, environment_step}
use Rattle.products.specs.declared.Sizes.{Sizes}
use Rattle.products.specs.Held.{Holds}
use Rattle.transitions.specs.declared.MoveRefusal.TheVariants.{NoRoom}
use Rattle.transitions.specs.Steps.{Answers, sizes_after, line_of}
use Rattle.transitions.proofs.MoveLaws.{record_bytes_lem, answers_refused, count, join_singles}

module _ (t : ℕ) (z : Sizes) (types : List ℕ) (known : List Bool) (types_room : length types ≡ 1024) (known_room : length known ≡ 1024)
    (forms threads cells : List ℕ) (state : State) (turns : ℕ) (threads_room : length threads ≡ 128) (h : Holds forms z turns threads types known cells state) where
  -- The state with the new name.
  abbrev next : State
  next = record { threads = state.threads; types = state.types ++ (t ∷ []); known = state.known ++ (true ∷ []) }

  named : length state.types ≡ z.names
  named = ap length (sym h.types) ∙ length-take-le z.names types (omega (arith, h.given))

  flagged : length state.known ≡ z.names
  flagged = ap length (sym h.known) ∙ length-take-le z.names known (omega (arith, h.given))

  environment_is : environment_step state t ≡ taken next (record_of 5 65535 z.names 255 255)
  unfolding environment_step now_known after
  environment_is =
      rw (join_singles state.threads, named, set_at state.known false [] true z.names flagged) refl

  crowd : length state.threads ≤ 64
  crowd = omega (arith, count forms z turns threads types known cells state threads_room h 0, h.few)

  names_after : length (state.types ++ (t ∷ [])) ≡ z.names + 1
  names_after = omega (arith, length-append state.types (t ∷ []), named)

  pub environment_full : 1024 ≤ z.names → Answers forms (turns + 1) threads types known cells state (environment_step state t) z (Err NoRoom)
  unfolding taken guard has_room
  environment_full k =
      answers_refused forms turns threads types known cells state NoRoom z (environment_step state t)
      (rw (environment_is, le-leb (length state.threads) 64 crowd, lt-leb (length (state.types ++ (t ∷ []))) 1024 (omega (arith, names_after))) refl) h

  pub environment_taken : (types' : List ℕ) (known' : List Bool) → z.names < 1024 → types' ≡ set types z.names t → known' ≡ set known z.names true
      → Answers forms (turns + 1) threads types' known' cells state (environment_step state t) z
      (Ok (record {
        sizes = record { threads = z.threads; names = z.names + 1; cells = z.cells };
        line = record { number = 0; label = 5; channel = 65535; name = z.names; actor = 255; receiver = 255 };
      }))
  unfolding taken guard has_room state_after record_bytes sizes_after line_of
  environment_taken types' known' k e f =
      rw (environment_is, le-leb (length state.threads) 64 crowd, le-leb (length (state.types ++ (t ∷ []))) 1024 (omega (arith, names_after)), e, f) (record {
        holds = record {
          few = h.few;
          given = omega arith;
          slack = omega (arith, h.slack);
          threads = h.threads;
          types = rw (add-one z.names) (take-suc-set types z.names t (omega arith)) ∙ ap (λ l. l ++ (t ∷ [])) h.types;
          known = rw (add-one z.names) (take-suc-set known z.names true (omega arith)) ∙ ap (λ l. l ++ (true ∷ [])) h.known;
          quiet = λ i j. get_or-set_other known z.names i true false (λ x. absurd (omega arith)) ∙ h.quiet i (omega arith);
        };
        bytes = record_bytes_lem 5 65535 z.names 255 255 (lit< tt) (lit< tt) (lit< tt);
      })
