pub mod LeftLemmas
pub mod MailClients
pub mod Steps
pub mod Numbers
pub mod Begun
pub mod Follows
mod Kept
pub mod MailClientLaw
pub mod Bridge
pub mod Shown
pub mod Spelled
pub mod SkServers
pub mod Bytes
pub mod SkServerLaw
pub mod SkClients
pub mod SkClientLaw
pub mod Requests
pub mod Served
pub mod SessionStands
pub mod Speakers
pub mod AnswerBytes
pub mod SessionGifts
pub mod SessionLaw
pub mod MailServers
pub mod MailServerLaw
pub mod Grounds
pub mod AnyTalks
pub mod AnyServers
pub mod AnyClients
pub mod AnyLemmas
pub mod AnyServerLaw
pub mod AnyClientLaw
pub mod EveryRole
pub mod Places
pub mod Servers
pub mod Gifts
pub mod Grants
pub mod Agreeing
pub mod Apart
pub mod Clients
pub mod Texts
pub mod Users
pub mod Readings
mod LoginPlaces
pub mod Taken
pub mod Forms
mod LoginLaw
mod WordLaw
mod ActLemmas
mod WithinActs
mod LegalLogin
mod MailOf
mod MailClean
mod LegalMail
pub mod KeyNameLaws
mod RemovalLaw
