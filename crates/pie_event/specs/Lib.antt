pub mod Event
pub mod Cause
