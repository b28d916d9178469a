-- The worked cases, the laws of the stored slack, and the lemmas that the proofs of the functions share.
pub mod Cases
pub mod SlackLaws
pub mod SlackBytes
pub mod SlackSteps
pub mod LengthSteps
pub mod TellSteps
pub mod SlackSizes
pub mod SlackCounts
