-- What the contracts of the services cite: document 01's "Questions, in order".
pub mod Questions
pub mod Check
pub mod Fault
pub mod Told
pub mod Later
