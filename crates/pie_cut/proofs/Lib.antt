mod Names
pub mod PartFacts
pub mod TextFacts
mod Examples
pub mod JoinedFacts
