mod Names
pub mod BackFacts
mod Examples
