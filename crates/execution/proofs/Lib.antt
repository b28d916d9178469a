-- Lemmas of the proofs of the service `play`: the log, a run move by move, and the questions before it.
pub mod LogLaws
pub mod RunSteps
pub mod PlaySteps
pub mod Assurance
