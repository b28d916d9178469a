-- What the contracts of typing and inference cite: a component's path and number, questions 7 to 10, what acts need
-- together, and the interface.
pub mod Lists
pub mod Counts
pub mod Acts
pub mod Classes
pub mod Typing
pub mod Needs
pub mod Interface
pub mod Told
pub mod Rows
pub mod Walks
