mod AskingLemmas
mod EndingLemmas
mod NumberLemmas
mod OrderLemmas
mod ServerLemmas
