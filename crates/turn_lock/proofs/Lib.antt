pub mod FrontLaws
mod Changes
mod RuleKept
pub mod SeatFacts
pub mod CountFacts
mod RuleTells
