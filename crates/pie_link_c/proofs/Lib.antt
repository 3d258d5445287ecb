mod Names
pub mod Handles
pub mod Bursting
pub mod Written
