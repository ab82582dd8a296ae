pub mod ClapLemmas
pub mod WordLemmas
pub mod FileLemmas
pub mod ServeLemmas
mod PosedLemmas
mod AnyWordLemmas
pub mod TextLemmas
pub mod LogLaws
mod RenewalLemmas
