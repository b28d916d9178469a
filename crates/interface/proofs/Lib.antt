-- The lemmas that the proofs of the functions share, and laws of the table and of the interface.
pub mod PathLaws
pub mod GroupLaws
pub mod CellLaws
pub mod MarkLaws
pub mod RowLaws
pub mod TableLaws
pub mod StoreLaws
pub mod Alls
pub mod ByteLaws
pub mod WriteLaws
pub mod InterfaceLaws
pub mod SizeLaws
pub mod InterfaceSteps
