-- What a names file gives, that two different triples never give the same sentence, worked cases, and the lemmas that the proofs of
-- the functions share.
pub mod NameLaws
pub mod SentenceLaws
pub mod Cases
pub mod LetterSteps
pub mod NameSteps
pub mod SentenceSteps
