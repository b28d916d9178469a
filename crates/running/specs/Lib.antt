-- Document 01's section "Running", in its order.
pub mod State
pub mod Products
pub mod Moves
pub mod Script
pub mod Play
pub mod Guarantees
pub mod Theorem
