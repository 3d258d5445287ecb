pub mod History
unfoldable pub use History.*
