-- What the contracts of the services cite, and what their theorems speak of: document 02, Q-7.
pub mod Moving
pub mod Before
pub mod Told
