-- Document 01's "Charter": what the contracts of the policy's reader cite, question 11, and questions 12 to 15 of a policy that is read.
pub mod Syntax
pub mod Reading
pub mod WellFormed
pub mod Rows
pub mod Loads
