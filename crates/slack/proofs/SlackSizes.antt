-- How much room `slack` can need: each group of an entry's list takes five bytes where the interface takes three. An interface has at most
-- 18,944 bytes and its entries disclose together to at most 4,096 groups, so that the slack has at most 27,136 bytes.
use Prim.Native.Nat.{ℕ, ◌+◌, ◌*◌, ◌≤◌}
use mathlib.Core.Bool.{Bool, true, false}
use mathlib.Core.List.{List, [], ◌∷◌, map}
use mathlib.Core.Path.{◌≡◌, refl}
use native.Mathlib.Omega.{arith}
use lib.Dec.{leb}
use lib.ListN.{length, length-append}
use borrow.Author.Tests.{le-leb}
use Rattle.reading.proofs.TreeLaws.{sheet_parts}
use Rattle.inference.specs.Interface.{Disclosure, Entry, list_bytes, entry_bytes, interface_bytes, Required, required_of}
use Rattle.inference.specs.Lists.{gather}
use Rattle.interface.proofs.InterfaceLaws.{list_length, head_length, entry_length}
use Rattle.interface.proofs.SizeLaws.{items_in, items_few}
use Rattle.policy.specs.Syntax.{Tree}
use Rattle.service.specs.Check.{fitting, written}
use Rattle.service.specs.Questions.{Asked, passed, failed, ask, Accepted, judged}
use Rattle.service.proofs.FirstLaws.{passed_reads, failed_below}
use Rattle.service.proofs.RoomLaws.{accepted_short}
use Rattle.slack.specs.Slack.{count_bytes, verdict_bytes, sums_bytes, slack_entry, slack_bytes, slack_for, slack_told}
use Rattle.slack.proofs.SlackBytes.{sum_of, group_sums}
use Rattle.slack.proofs.SlackLaws.{five_each}

module _ (policy : List Tree) (required : Required) where
  -- The sums of an entry, and the entry.
  module _ (e : Entry) where
    sums_length_lem : (ds : List Disclosure) → length (sums_bytes (map (sum_of policy required e) ds)) ≡ length (list_bytes ds) + 2 * length ds
    unfolding sums_bytes
    sums_length_lem [] = unfold list_bytes in refl
    sums_length_lem (d ∷ ds) = omega (arith, five_each (sum_of policy required e) (λ x. unfold sum_of verdict_bytes count_bytes in refl) (d ∷ ds), list_length (d ∷ ds) (λ z. absurd (omega arith)))

    slack_entry_length : length (slack_entry policy required e) ≡ length (entry_bytes e) + 2 * length e.disclose
    unfolding slack_entry
    slack_entry_length = rw group_sums (omega (
      arith,
      head_length e (sums_bytes (map (sum_of policy required e) e.disclose)),
      entry_length e,
      sums_length_lem e.disclose,
    ))

  entries_length : (es : List Entry) → length (gather (slack_entry policy required) es) ≡ length (gather entry_bytes es) + 2 * items_in es
  unfolding gather items_in
  entries_length [] = refl
  entries_length (e ∷ es) = omega (
    arith,
    length-append (slack_entry policy required e) (gather (slack_entry policy required) es),
    length-append (entry_bytes e) (gather entry_bytes es),
    slack_entry_length e,
    entries_length es,
  )

  -- Two bytes more than in the interface for each group disclosed to.
  pub slack_length : length (slack_bytes policy required) ≡ length (interface_bytes required.entries) + 2 * items_in required.entries
  unfolding slack_bytes interface_bytes
  slack_length = entries_length required.entries

-- The slack of what is accepted is short.
pub slack_short : (s c : List ℕ) (a : Accepted) → judged s c ≡ passed a → length (slack_bytes a.policy (required_of a.sheet)) ≤ 27136
unfolding required_of
slack_short s c a e =
    let r = passed_reads s c a e in
    omega (
      arith,
      slack_length a.policy (required_of a.sheet),
      accepted_short s c a e,
      items_few s c a.sheet r.end (sheet_parts s c r.reads),
    )

-- What a call of `slack` answers: a length of at most 27,136, or a number of at most 19.
unfoldable pub SlackInRange : Asked ℕ → Type 0
SlackInRange (passed n) = n ≤ 27136
SlackInRange (failed q) = q ≤ 19

pub slack_in_range : (s c output : List ℕ) → SlackInRange (slack_told s c output).answer
unfolding slack_told
slack_in_range s c output = go (judged s c) refl
  where
    fits : (a : Accepted) (b : Bool) → judged s c ≡ passed a
        → SlackInRange (written output (ask 19 b (passed (slack_bytes a.policy (required_of a.sheet))))).answer
    fits a true e = unfold written ask SlackInRange in slack_short s c a e
    fits a false e = unfold written ask SlackInRange in omega arith

    go : (x : Asked Accepted) → judged s c ≡ x → SlackInRange (written output (slack_for output x)).answer
    go (passed a) e = unfold slack_for fitting in fits a (leb (length (slack_bytes a.policy (required_of a.sheet))) (length output)) e
    go (failed n) e = unfold slack_for written SlackInRange in omega (arith, failed_below s c n e)

-- An output of 27,136 bytes has room for every slack: a call that passes questions 1 to 18 is accepted.
pub slack_always_room : (s c output : List ℕ) (a : Accepted) → judged s c ≡ passed a → 27136 ≤ length output
    → (slack_told s c output).answer ≡ passed (length (slack_bytes a.policy (required_of a.sheet)))
unfolding slack_told slack_for fitting ask written
slack_always_room s c output a e h =
    rw (e, le-leb (length (slack_bytes a.policy (required_of a.sheet))) (length output) (omega (arith, slack_short s c a e))) refl
