pub mod PieceLaws
pub mod SecretLaws
pub mod ShowLaws
pub mod WholeLaws
