pub mod CoreFacts
pub mod BookFacts
pub mod RunFacts
pub mod Examples
