-- What the contracts of the names reader and of the sentence composer cite (document 02, Q-1).
pub mod Names
pub mod Sentence
pub mod Told
pub mod Line
