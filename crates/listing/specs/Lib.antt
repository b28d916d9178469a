-- What the composer's contracts cite: the text of an entry.
pub mod Text
pub mod Put
