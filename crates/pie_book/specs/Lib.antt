pub mod Types
pub mod History
pub mod Decision
pub mod Core
pub mod Book
pub mod Snapshot
unfoldable pub use Types.*
unfoldable pub use History.*
unfoldable pub use Decision.*
unfoldable pub use Core.*
unfoldable pub use Book.*
unfoldable pub use Snapshot.*
