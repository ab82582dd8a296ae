pub mod PassLemmas
pub mod MessageLemmas
pub mod LoginLaws
pub mod WithinLemmas
pub mod TextLemmas
pub mod ChoiceLaws
pub mod DigitLemmas
pub mod MailLaws
