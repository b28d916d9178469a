-- What the contracts of the sums cite.
pub mod Sums
