-- Lemmas of the proofs of the moves' functions.
pub mod OutcomeSteps
pub mod MoveLaws
pub mod UnfoldSteps
pub mod SendSteps
pub mod ReceiveSteps
pub mod EnvironmentSteps
pub mod CommunicateSteps
pub mod StepSteps
