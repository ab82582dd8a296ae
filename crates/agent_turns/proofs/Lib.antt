mod TakeLemmas
mod AskLemmas
pub mod DrivenFrames
mod WalkLemmas
mod DriveLemmas
mod NodeLemmas
mod FrameLemmas
mod TurnLemmas
