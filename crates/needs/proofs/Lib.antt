-- The six cases, that there is no other, the lemmas that the proofs of the functions share, laws of the definition, and what
-- worked cases compute it with.
pub mod Cases
pub mod Channels
pub mod NeedSteps
pub mod NeedLaws
pub mod Computed
