-- What the contracts of making cite: threads in memory, and what a walk makes.
pub mod Pairs
pub mod Held
pub mod Makes
pub mod Makers
pub mod Begins
pub mod Starts
