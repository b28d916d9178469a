-- What the contracts of this crate cite: the stored form of a sheet in a dialect, and where a copy of one stands.
pub mod Encoding
pub mod Copying
