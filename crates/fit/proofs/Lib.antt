-- What a path reaches and is granted, read off a tree's rows, and the lemmas that the proofs of the functions share.
pub mod GrantLaws
pub mod GrantTrees
pub mod ClassGrants
pub mod GrantSteps
pub mod ScanSteps
pub mod CoverSteps
pub mod EntryLaws
pub mod EntrySteps
pub mod SearchLaws
