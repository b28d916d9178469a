-- Laws of decoding, and what each return of its functions comes to.
pub mod WordSteps
pub mod WordLaws
pub mod NoteLaws
pub mod FormFacts
pub mod NoteSteps
pub mod TableLaws
