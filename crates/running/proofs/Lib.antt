-- Proofs of running: demand 3 over the definitions, then computed equations and worked cases.
pub mod Alls
pub mod ProductLaws
pub mod Owed
pub mod Invariant
pub mod Components
pub mod ClassCounts
pub mod Accepted
pub mod Homes
pub mod Runs
pub mod Parts
pub mod Theorem
pub mod Computed
pub mod Cases
pub mod Table
pub mod Clauses
