mod LaneFacts
mod FieldFacts
pub mod InputFacts
mod HistoryFacts
pub mod ReadBack
mod ExamplesLines
pub mod TextFacts
