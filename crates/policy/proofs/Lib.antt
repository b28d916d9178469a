-- Laws of the policy's definitions, and the lemmas that its functions' proofs share.
pub mod Cases
pub mod PurposeCases
pub mod DialectLaws
pub mod NodeLaws
pub mod RowLaws
pub mod SpanSteps
pub mod BitSteps
pub mod ListLaws
pub mod CountLaws
pub mod ListSteps
pub mod PermissionSteps
pub mod OpeningSteps
pub mod StoreLaws
pub mod NodeSteps
pub mod TreeLaws
pub mod TreeSteps
