pub mod Texts
pub mod Rules
pub mod Decisions
pub mod Order
pub mod OldTexts
pub mod inner
