pub mod Names
pub mod HistoryText
pub mod Runs
pub mod Migrate
pub mod Other
pub mod WhatIf
unfoldable pub use Rattle.pie_trace.specs.{Names.*, HistoryText.*, Runs.*, Migrate.*}
