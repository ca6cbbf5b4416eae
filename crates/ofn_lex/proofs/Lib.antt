pub mod EndLaws
pub mod TokenLaws
pub mod AnswerLaws
pub mod CharacterLaws
pub mod ByteForms
pub mod CharacterForms
pub mod OrderLaws
