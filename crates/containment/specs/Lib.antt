-- What the contracts of this crate cite.
pub mod Bits
pub mod Answers
