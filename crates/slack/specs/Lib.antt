-- What the contracts of the service `slack` cite.
pub mod Slack
pub mod Rows
pub mod Told
pub mod Storable
