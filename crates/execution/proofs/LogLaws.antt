-- A record of eight bytes written into the log: what is logged so far, and what stands past it.
use Prim.Native.Nat.{ℕ, ◌+◌, ◌-◌, ◌≤◌}
use mathlib.Core.List.{List, ◌++◌, append_assoc}
use mathlib.Core.Path.{◌≡◌, refl, sym, ap, ◌∙◌}
use native.Mathlib.Omega.{arith}
use lib.ListN.{length, take, drop, length-append, length-drop}
use lib.Seq.{take_at, drop_at, drop-drop, length-take-le}
use Rattle.running.specs.Moves.{word}
use Rattle.script.specs.Told.{bytes_of}
use Rattle.script.specs.declared.Record.{Record}

pub eight_bytes : (r : Record) → length (bytes_of r) ≡ 8
unfolding bytes_of word
eight_bytes r = refl

module _ (log bytes : List ℕ) (at : ℕ) (eight : length bytes ≡ 8) (room : at + 8 ≤ length log) where
  head_length : length (take at log ++ bytes) ≡ at + 8
  head_length = omega (arith, length-append (take at log) bytes, length-take-le at log (omega arith))

  module _ (log' : List ℕ) (e : log' ≡ take at log ++ (bytes ++ drop (at + 8) log)) where
    split : log' ≡ (take at log ++ bytes) ++ drop (at + 8) log
    split = e ∙ sym (append_assoc (take at log) bytes (drop (at + 8) log))

    pub logged_more : take (at + 8) log' ≡ take at log ++ bytes
    logged_more = ap (take (at + 8)) split ∙ take_at (take at log ++ bytes) (drop (at + 8) log) (at + 8) head_length

    rest_kept : drop (at + 8) log' ≡ drop (at + 8) log
    rest_kept = ap (drop (at + 8)) split ∙ drop_at (take at log ++ bytes) (drop (at + 8) log) (at + 8) head_length

    pub log_length : length log' ≡ length log
    log_length =
        omega (arith, ap length split, length-append (take at log ++ bytes) (drop (at + 8) log), head_length, length-drop (at + 8) log)

    pub past_kept : (n : ℕ) → at + 8 ≤ n → drop n log' ≡ drop n log
    past_kept n h =
        let k : at + 8 + (n - (at + 8)) ≡ n = omega arith in
        ap (λ (i : ℕ). drop i log') (sym k) ∙ sym (drop-drop (n - (at + 8)) (at + 8) log')
        ∙ ap (drop (n - (at + 8))) rest_kept ∙ drop-drop (n - (at + 8)) (at + 8) log ∙ ap (λ (i : ℕ). drop i log) k
