-- What the contracts of a run's memory cite: threads as numbers, and chains of run names.
pub mod Threads
pub mod Chains
