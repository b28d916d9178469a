-- What the contracts of this crate cite: "What an act needs" (document 01).
pub mod Needs
