-- What the reader's contracts cite: document 01's "Types and sheets", and questions 1 to 6.
pub mod Questions
pub mod Read
pub mod Dialects
pub mod Types
pub mod Syntax
pub mod Forms
pub mod System
pub mod Total
pub mod Told
