-- What the contracts of `play` and of the functions that run a script cite.
pub mod Told
pub mod Assurance
pub mod Begins
pub mod Runs
