pub mod KeptFacts
pub mod Headline
pub mod Examples
