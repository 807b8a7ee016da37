pub mod Verdict
pub mod Rules
pub mod Given
pub mod Refusals
pub mod OldTexts
pub mod OldFold
pub mod inner
