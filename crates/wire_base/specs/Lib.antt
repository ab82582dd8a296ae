pub mod Texts
pub mod Readers
pub mod Kinds
pub mod Names
pub mod Rules
pub mod Spans
