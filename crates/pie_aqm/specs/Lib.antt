pub mod Steps
pub mod History
pub mod Calls
unfoldable pub use Steps.*
unfoldable pub use History.*
unfoldable pub use Calls.*
