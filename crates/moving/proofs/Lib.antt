-- The lemmas that the proofs of the functions share, the theorems of Q-7, and its worked cases.
pub mod MoveSteps
pub mod MoveLaws
pub mod SameLaws
pub mod Computed
pub mod Cases
pub mod BeforeCases
