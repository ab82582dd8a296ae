pub mod BitLemmas
pub mod RoundLemmas
pub mod ByteLaws
pub mod CipherLaws
pub mod ParityLaws
pub mod WordLaws
pub mod TableLaws
