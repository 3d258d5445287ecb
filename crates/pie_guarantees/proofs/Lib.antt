pub mod LawfulFacts
pub mod BurstFacts
pub mod ProbabilityFacts
pub mod SpacingFacts
pub mod TextFacts
pub mod ResponseFacts
pub mod Examples
