-- The numbers of an accepted sheet's slack are bytes: the verdicts of an entry's covering that are on groups are one for each group of its
-- list, so that there are at most 64 and their groups are below 64; and sums are stored by their low and high byte.
use Prim.Native.Nat.{ℕ, ◌<◌, ◌≤◌, ◌%◌, ◌/◌}
use mathlib.Core.Bool.{Bool, true, false}
use mathlib.Core.List.{List, [], ◌∷◌, ◌++◌, map}
use mathlib.Core.Path.{◌≡◌, refl, ◌∙◌}
use native.Mathlib.Omega.{arith}
use lib.ListN.{length, length-map}
use Rattle.reading.proofs.TreeLaws.{sheet_parts}
use Rattle.inference.specs.Counts.{Count, count_number}
use Rattle.inference.specs.Interface.{Disclosure, Entry, Permission, reading, writing, accessing, disclosing, flagged, permissions, Required, required_of, needed}
use Rattle.inference.specs.Lists.{only}
use Rattle.interface.proofs.Alls.{All, done, also, all_map}
use Rattle.interface.proofs.ByteLaws.{Small, byte_more, gather_bytes, head_bytes, interface_small}
use Rattle.interface.proofs.WriteLaws.{Bytes, no_byte, bytes_append}
use Rattle.policy.specs.Syntax.{Tree}
use Rattle.fit.specs.Grants.{count_granted}
use Rattle.fit.specs.Satisfies.{Verdict, counts, verdict_of, covering}
use Rattle.service.specs.Questions.{passed, Accepted, judged}
use Rattle.service.proofs.FirstLaws.{passed_reads}
use Rattle.slack.specs.Slack.{count_bytes, verdict_bytes, on_group, sums_bytes, slack_entry, slack_bytes}

-- Sums that are bytes, and at most 64 of them.
count_bytes_lem : (n : Count) → Bytes (count_bytes n)
unfolding count_bytes
count_bytes_lem n = byte_more (count_number n % 256) (omega arith) (byte_more (count_number n / 256 % 256) (omega arith) no_byte)

sums_bytes_lem : (vs : List Verdict) → length vs ≤ 64 → All (λ v. Bytes (verdict_bytes v)) vs → Bytes (sums_bytes vs)
unfolding sums_bytes
sums_bytes_lem [] few bs = no_byte
sums_bytes_lem (v ∷ vs) few bs = byte_more (length (v ∷ vs)) (omega arith) (gather_bytes bs)

module _ (policy : List Tree) (required : Required) (e : Entry) where
  -- The verdict on a group of an entry's list.
  unfoldable pub sum_of : Disclosure → Verdict
  sum_of d = counts d.group (needed required e d.group) (count_granted d.group policy e.kind e.component)

  listed_sums : (ds : List Disclosure) → only on_group (map (verdict_of policy required e) (map (λ d. disclosing d.group) ds)) ≡ map sum_of ds
  unfolding only on_group verdict_of sum_of
  listed_sums [] = refl
  listed_sums (d ∷ ds) = rw (listed_sums ds)

  no_flag : (b : Bool) (p : Permission) (ps : List Permission) → on_group (verdict_of policy required e p) ≡ false
      → only on_group (map (verdict_of policy required e) (flagged b p ++ ps)) ≡ only on_group (map (verdict_of policy required e) ps)
  unfolding only flagged
  no_flag true p ps h = rw h
  no_flag false p ps h = refl

  -- The verdicts on groups are those on the groups of the list.
  pub group_sums : only on_group (covering policy required e) ≡ map sum_of e.disclose
  unfolding covering permissions verdict_of on_group
  group_sums =
      no_flag e.read reading _ refl ∙ no_flag e.write writing _ refl ∙ no_flag e.access accessing _ refl ∙ listed_sums e.disclose

  -- Their bytes are bytes.
  sum_bytes : (d : Disclosure) → d.group < 64 → Bytes (verdict_bytes (sum_of d))
  unfolding verdict_bytes sum_of
  sum_bytes d h = byte_more d.group (omega arith) (bytes_append (count_bytes_lem _) (count_bytes_lem _))

  all_sums : {ds : List Disclosure} → All (λ d. d.group < 64) ds → All (λ v. Bytes (verdict_bytes v)) (map sum_of ds)
  all_sums done = done
  all_sums (also {x = d} h hs) = also (sum_bytes d h) (all_sums hs)

  slack_entry_bytes : Small e → Bytes (slack_entry policy required e)
  unfolding slack_entry
  slack_entry_bytes s =
      head_bytes e _ s (rw group_sums (sums_bytes_lem (map sum_of e.disclose) (omega (arith, s.few, length-map e.disclose sum_of)) (all_sums s.groups)))

-- The slack's bytes are bytes.
pub slack_bytes_lem : (s c : List ℕ) (a : Accepted) → judged s c ≡ passed a → Bytes (slack_bytes a.policy (required_of a.sheet))
unfolding slack_bytes required_of
slack_bytes_lem s c a e =
    let r = passed_reads s c a e in
    gather_bytes (all_map (slack_entry_bytes a.policy (required_of a.sheet)) (interface_small s c a.sheet r.end (sheet_parts s c r.reads)))
