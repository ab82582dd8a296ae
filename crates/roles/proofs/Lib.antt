pub mod StartLemmas
pub mod TemplateLemmas
pub mod ValueLemmas
pub mod AnswerLemmas
pub mod UndoLaws
pub mod ExchangeLaws
pub mod NeedLaws
mod Rows
