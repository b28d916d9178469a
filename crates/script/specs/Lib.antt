-- What the contracts on scripts and records cite, beside document 01's definitions in the crate `running`.
pub mod Told
pub mod Fields
