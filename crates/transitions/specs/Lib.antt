-- What the contracts of the moves cite: a move's answer.
pub mod Steps
