pub mod WaitLemmas
pub mod RestLemmas
pub mod DeliveryLemmas
