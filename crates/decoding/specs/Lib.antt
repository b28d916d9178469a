-- What the contracts of decoding cite: a form as a number, the trees that a table holds, and what the walks over a sheet leave.
pub mod Words
pub mod Tables
pub mod Notes
