-- The lemmas that the proofs of the functions share, and the law that the sums are what classes need.
pub mod KeyLaws
pub mod SumSteps
pub mod ClassSums
pub mod SharingLaws
