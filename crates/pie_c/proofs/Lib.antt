pub mod Sound
mod Examples
