pub mod Answer
pub mod Answers
pub mod AnswerLaws
