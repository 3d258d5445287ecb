mod Examples
pub mod WrittenFacts
mod AdviceExamples
