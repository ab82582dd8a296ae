pub mod ChainLemmas
mod WriteLemmas
mod ConsentLemmas
mod UnderWayLemmas
