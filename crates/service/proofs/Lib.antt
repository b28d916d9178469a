-- The worked cases, on the definitions of specs/, and the laws that join the code's answers to document 01's questions.
pub mod Computed
pub mod Table
pub mod Cases
pub mod Shared
pub mod Purposes
pub mod JudgeLaws
pub mod FirstLaws
pub mod PassedLaws
pub mod RoomLaws
pub mod JudgeSteps
pub mod CheckSteps
