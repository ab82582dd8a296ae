pub mod VerdictForms
pub mod SkMoves
pub mod SkSizes
pub mod MailSizes
pub mod AnyMoves
pub mod AnySizes
pub mod OfferedFound
pub mod OfferedLaws
pub mod AnswerFits
pub mod RoomlessLaws
pub mod RestLaws
pub mod OffersServe
pub mod StartNeeds
pub mod TalkSides
pub mod SearchDeeds
pub mod MetDeeds
pub mod SearchEnds
pub mod BegunSearches
pub mod OpenSearches
pub mod EndPhases
pub mod FrameReads
pub mod AskedTexts
pub mod SeatLaws
pub mod OpenRpc
pub mod EventDeeds
pub mod StoredLaws
pub mod CarriedLaws
pub mod ReadCases
pub mod ReadLaws
pub mod ReadComes
pub mod RequestsLaws
pub mod FoundLemmas
pub mod AskedLaws
pub mod OtherTalks
pub mod AnswerSeatLaws
pub mod ToldReads
pub mod AnswerDeeds
pub mod AnsweredCalm
pub mod AnsweredReplies
pub mod AnsweredQuestions
pub mod AnswerLaws
pub mod AgentNames
pub mod RunLemmas
pub mod FidLemmas
pub mod TalkLemmas
pub mod TurnFacts
pub mod KnownLaws
pub mod StepLaws
pub mod OpenedLaws
pub mod MadeLaws
pub mod ActLaws
pub mod ShortLaws
pub mod WaitCounts
pub mod HandCounts
pub mod EventCounts
pub mod LittleLaws
pub mod LengthLaws
pub mod ScriptLaws
pub mod EveryScript
pub mod EveryPromise
pub mod RoleForms
pub mod MailRole
pub mod SkRole
pub mod AnyForms
pub mod AnyRole
pub mod AllRoles
pub mod TellLemmas
pub mod SearchSteps
pub mod StartLaws
pub mod RequestLaws
pub mod WriteLaws
pub mod LeaveLaws
pub mod BegunLaws
pub mod NumberLaws
pub mod StepLemmas
pub mod StayLaws
pub mod SessionSame
pub mod RestartLaws
pub mod PlayLaws
pub mod DomainLaws
pub mod SessionLaws
pub mod SaidLemmas
pub mod NamedStarts
pub mod LeaveLemmas
pub mod TurnLaws
pub mod PlaceLemmas
pub mod WordLaws
pub mod ConversationLaws
pub mod Legality
mod SightLaws
mod GrantedLaws
mod DrivenTurns
mod DrivenAnswers
mod DrivenSeats
mod SkTalks
mod MadeNodes
mod RecordLaws
mod MadeLines
mod MadeRounds
mod MadePairs
pub mod MadeRuns
