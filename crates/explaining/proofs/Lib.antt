-- The lemmas of the proofs of explaining, its laws, and worked cases.
pub mod ExplainSteps
pub mod ExplainLaws
pub mod Cases
