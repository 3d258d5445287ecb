pub mod Verdicts
pub mod Examples
unfoldable pub use Verdicts.*
unfoldable pub use Examples.*
