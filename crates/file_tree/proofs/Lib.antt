pub mod RecordLaws
pub mod DirectoryLaws
pub mod WalkLaws
pub mod OpenLaws
pub mod HeldLaws
