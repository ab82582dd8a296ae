pub mod Mails
pub mod Rests
pub mod Kept
pub mod Deliveries
