-- The laws of layout.
pub mod AnswerLaws
