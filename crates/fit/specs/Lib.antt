-- What the contracts of grants and of satisfaction cite: what a policy grants (document 01, "Charter"), questions 16 to 18, and the first
-- permission that is not covered.
pub mod Grants
pub mod Satisfies
pub mod Uncovered
pub mod Givers
pub mod Covers
pub mod Faults
pub mod Search
