-- Laws of scripts, and the lemmas that the proofs of this crate's functions share.
pub mod ScriptLaws
pub mod MoveSteps
pub mod SpanSteps
pub mod CountSteps
pub mod RecordSteps
