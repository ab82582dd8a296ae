pub mod Examples
pub mod TalkExamples
pub mod ProtocolExamples
pub mod SideExamples
