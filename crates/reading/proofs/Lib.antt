-- Laws of the reader's definitions, and the lemmas that its functions' proofs share.
pub mod Tests
pub mod Tables
pub mod Steps
pub mod PathLaws
pub mod FormSteps
pub mod Parts
pub mod TypeLaws
pub mod TypeSteps
pub mod FormLaws
pub mod TreeLaws
pub mod ProcessSteps
pub mod SystemSteps
pub mod SheetSteps
pub mod Local
pub mod ReadLaws
pub mod TotalLaws
pub mod QuestionLaws
