pub mod Laws
pub mod Redaction
pub mod Sentences
pub mod Shown
