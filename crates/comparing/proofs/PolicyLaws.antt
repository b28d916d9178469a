-- A charter that has at most 4,096 bytes and passes 11 to 15: it was read, and its policy is well-formed.
use Prim.Native.Nat.{ℕ, ◌≤◌}
use mathlib.Core.List.{List}
use mathlib.Core.Path.{◌≡◌, refl, ap, ◌∙◌}
use native.Mathlib.Omega.{arith}
use borrow.Author.Tests.{leb-true, le-leb}
use lib.Dec.{leb}
use lib.ListN.{length}
use Rattle.reading.specs.Read.{Read, got, refused}
use Rattle.policy.specs.Syntax.{Tree}
use Rattle.policy.specs.Reading.{read_policy}
use Rattle.service.specs.Questions.{passed, failed, ask, after_reading, well_formed}
use Rattle.service.proofs.PassedLaws.{ask_yes, ask_rest, Formed, formed_yes, formed_rest, formed_passes}
use Rattle.comparing.specs.NoLooser.{policy_of}

pub record Passing (c : List ℕ) (policy : List Tree) : Type 0 where
  pub short : length c ≤ 4096
  pub end : ℕ
  pub reads : read_policy c ≡ got policy end
  pub formed : Formed policy

pub policy_read : (c : List ℕ) (policy : List Tree) → policy_of c ≡ passed policy → Passing c policy
unfolding policy_of
policy_read c policy e =
    go (read_policy c) refl (ask_rest 1 (leb (length c) 4096) _ policy e) (leb-true (length c) 4096 (ask_yes 1 (leb (length c) 4096) _ policy e))
  where
    go : (x : Read (List Tree)) → read_policy c ≡ x → after_reading x (λ p. well_formed p (passed p)) ≡ passed policy → length c ≤ 4096 → Passing c policy
    go (got p end) is h short =
        let f : well_formed p (passed p) ≡ passed policy = unfold after_reading in h in
        let g : passed p ≡ passed policy = formed_rest p (passed p) policy f in
        let z : p ≡ policy = cc in
        record { short = short; end = end; reads = is ∙ ap (λ (t : List Tree). got t end) z; formed = rw z at (formed_yes p (passed p) policy f) }
    go (refused q at) is h short = let f : failed q ≡ passed policy = unfold after_reading in h in let z : ◌≡◌ {A = ℕ} 0 1 = cc in absurd (omega arith)

-- And the other way round.
pub read_policy_lem : (c : List ℕ) (policy : List Tree) → Passing c policy → policy_of c ≡ passed policy
unfolding policy_of ask after_reading
read_policy_lem c policy p = rw (le-leb (length c) 4096 p.short, p.reads) (formed_passes policy (passed policy) p.formed)
