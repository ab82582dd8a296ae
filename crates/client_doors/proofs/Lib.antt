pub mod FirstLemmas
pub mod WrongLemmas
pub mod CountLaws
pub mod OtherLaws
pub mod MinuteLaws
