-- Worked cases of the definitions, laws of the relation, the theorems of Q-8, and lemmas of the functions' proofs.
pub mod Computed
pub mod Cases
pub mod SheetCases
pub mod ListLaws
pub mod RowLaws
pub mod PolicyLaws
pub mod BitLaws
pub mod OrderLaws
pub mod GrantLaws
pub mod PassLaws
pub mod Theorem
pub mod CountSteps
pub mod RowSteps
pub mod TreeSteps
pub mod LoadSteps
pub mod CompareSteps
