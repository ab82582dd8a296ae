pub mod KeyFaults
pub mod Lists
pub mod Listing
pub mod Edits
pub mod Finding
pub mod Batches
pub mod CtlLines
pub mod Digits
