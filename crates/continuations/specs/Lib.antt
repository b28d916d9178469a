-- What the contracts of continuations cite: the prefix of a thread, and products in their place.
pub mod Prefixes
pub mod Places
pub mod Exchanges
