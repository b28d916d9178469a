-- What the contract of the service cites, and what its theorems speak of: document 02, Q-8.
pub mod NoLooser
pub mod Rows
pub mod Told
