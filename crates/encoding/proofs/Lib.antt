-- The laws of the stored form.
pub mod Ahead
pub mod Types
pub mod Stored
pub mod ReadBack
pub mod Sizes
pub mod WalkSteps
pub mod PutLaws
pub mod CopySteps
pub mod CopyLaws
