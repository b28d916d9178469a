-- How far a policy's count may be lowered (document 02, Q-5).
pub mod Trim
