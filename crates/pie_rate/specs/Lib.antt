pub mod Estimate
unfoldable pub use Estimate.*
