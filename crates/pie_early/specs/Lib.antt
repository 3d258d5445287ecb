pub mod Decision
pub mod Cause
