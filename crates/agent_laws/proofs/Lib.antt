mod AskLaws
mod SettleLaws
pub mod KindLaws
mod PromptLaws
pub mod MetLaws
pub mod GrowLaws
mod DeedLaws
mod FidLaws
mod HeldLaws
mod ExclusiveLaws
mod TextLaws
mod RefusalLaws
mod HistoryLaws
mod ReplyLaws
mod ToldLaws
mod FitLaws
mod SpellLaws
mod HiddenLaws
mod SightLaws
mod DueLaws
mod SecretLaws
mod AlikeLaws
mod WriteLaws
pub mod ConversationLaws
mod FileLaws
mod WaitLaws
mod PublicLaws
mod SeenLaws
mod SizeLaws
mod SizedLaws
mod ShutLaws
mod LineLaws
pub mod ClosedLaws
mod EditLaws
mod PutLaws
mod KeyedLaws
pub mod ChosenLaws
mod OverLaws
mod DropLaws
mod DropHistoryLaws
mod RaiseLaws
mod LeadLaws
mod SideLaws
mod AloneLaws
mod SeekLaws
mod ShownLaws
mod CallLaws
mod AlongLaws
mod ResumeLaws
mod GoesLaws
mod FrameLaws
mod RedactLaws
mod TagLaws
mod ViewLaws
mod StepLaws
mod GoodLaws
mod LeaveLaws
mod EventLaws
