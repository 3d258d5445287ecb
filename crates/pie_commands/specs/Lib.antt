pub mod Advising
pub mod Alterations
pub mod Cuts
pub mod Selections
pub mod Storms
pub mod TextKinds
pub mod Tuning
pub mod Values
