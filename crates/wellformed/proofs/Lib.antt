-- The lemmas that the proofs of questions 12 to 15 share.
pub mod KindSteps
pub mod AgreeSteps
pub mod HeadSteps
pub mod FenceSteps
pub mod FlatLaws
pub mod OrderLaws
pub mod PassSteps
