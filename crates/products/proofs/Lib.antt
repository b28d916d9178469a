-- Laws of making, and the lemmas of its functions' proofs.
pub mod PairLaws
pub mod GrowLaws
pub mod GiveLaws
pub mod GivingSteps
pub mod MakeSteps
pub mod SystemSteps
pub mod StartSteps
