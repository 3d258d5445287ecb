pub mod Numbers
pub mod Enqueue
pub mod Departure
pub mod Update
pub mod Queue
