pub mod LineLemmas
pub mod ExampleLaws
pub mod RestartLemmas
pub mod NotedLaws
