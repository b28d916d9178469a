-- Laws of a run's memory, and the lemmas of its functions' proofs.
pub mod ThreadLaws
pub mod ChainLaws
pub mod SpliceSteps
pub mod ChainSteps
