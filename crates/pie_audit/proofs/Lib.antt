mod Names
mod Examples
pub mod LegalFacts
pub mod AuditorFacts
pub mod ProcessorFacts
