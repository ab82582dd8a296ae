pub mod Manners
pub mod Simple
pub mod Chains
pub mod Requests
pub mod Replies
pub mod Wanted
