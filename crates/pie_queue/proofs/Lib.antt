pub mod QueueFacts
pub mod Examples
