pub mod AnswersOut
