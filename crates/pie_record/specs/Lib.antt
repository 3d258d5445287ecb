pub mod Names
pub mod Field
pub mod Text
pub mod PlainLine
pub mod Source
pub mod Command
pub mod FirstRecord
pub mod HistoryLines
pub mod Write
pub mod Plain
pub mod ReadBack
unfoldable pub use Names.*
unfoldable pub use Field.*
unfoldable pub use Text.*
unfoldable pub use PlainLine.*
unfoldable pub use Command.*
unfoldable pub use FirstRecord.*
unfoldable pub use HistoryLines.*
unfoldable pub use Write.*
unfoldable pub use Plain.*
unfoldable pub use ReadBack.*
