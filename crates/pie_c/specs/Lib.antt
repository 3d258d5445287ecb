pub mod State
pub mod Events
unfoldable pub use State.*
unfoldable pub use Events.*
