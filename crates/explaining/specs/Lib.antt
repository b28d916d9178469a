-- What the contracts of the service `explain` cite.
pub mod Explain
pub mod Told
