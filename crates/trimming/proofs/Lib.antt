-- Lowering a policy's count, question by question; then the theorem, and worked cases.
pub mod TestLaws
pub mod LowerLaws
pub mod FormedLaws
pub mod GrantedLaws
pub mod SlackLaws
pub mod EntryLaws
pub mod PathLaws
pub mod PassLaws
pub mod Theorem
pub mod Cases
