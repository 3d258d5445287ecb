pub mod Names
pub mod Calls
pub mod Folds
pub mod Bursts
pub mod Owned
unfoldable pub use Names.*
unfoldable pub use Calls.*
unfoldable pub use Folds.*
unfoldable pub use Bursts.*
