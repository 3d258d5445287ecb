pub mod Advice
pub mod Time
pub mod Number
pub mod Opening
