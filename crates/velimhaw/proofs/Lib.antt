-- Lemmas of the exported functions' proofs, and what a number that they answer tells.
pub mod CodeSteps
pub mod CodeLaws
pub mod Assurance
