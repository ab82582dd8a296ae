pub mod StepLemmas
pub mod FillLemmas
pub mod ReadLemmas
pub mod DrawLemmas
pub mod AnswerLemmas
pub mod ServeLemmas
pub mod SessionLaws
pub mod ToldLaws
pub mod CompleteLaws
pub mod SpentLaws
pub mod GrantLaws
mod ListenLemmas
pub mod NoticeLaws
