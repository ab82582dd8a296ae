mod ServingLemmas
mod PromptLemmas
mod KeepLemmas
mod WordLemmas
