pub mod FrontFacts
pub mod MemoryLemmas
pub mod SubmitLemmas
pub mod EntryLemmas
pub mod MadeLemmas
pub mod AskLemmas
pub mod ResumeLaws
pub mod ExchangeLemmas
