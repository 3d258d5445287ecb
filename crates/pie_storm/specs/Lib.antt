pub mod Plans
pub mod Storms
