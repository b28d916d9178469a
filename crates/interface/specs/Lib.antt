-- What the contracts of the interface writer cite.
pub mod Writes
