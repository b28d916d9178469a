-- The lemmas that the proofs of the functions share, the law of a line, and worked cases.
pub mod TextLaws
pub mod ListingSteps
pub mod LineLaws
pub mod Cases
