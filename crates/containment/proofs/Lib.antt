-- Lemmas of this crate's proofs: the rule of the table, and maps digit by digit.
pub mod Table
pub mod DigitLaws
