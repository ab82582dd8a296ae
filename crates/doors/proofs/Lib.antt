pub mod AskLemmas
pub mod AttachLaws
pub mod FidLemmas
pub mod PortLemmas
pub mod ReadLemmas
pub mod ServeLemmas
pub mod VouchLemmas
