mod DecimalLemmas
mod CallLaws
mod LogLaws
mod ReadBack
