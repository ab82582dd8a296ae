pub mod Calls
pub mod Logins
pub mod Choices
pub mod MailLogins
