pub mod Choice
pub mod Selection
pub mod Explanation
pub mod Record
pub mod Report
pub mod Names
pub mod Explanations
pub mod DecidedEvent
pub mod Answer
pub mod Ranges
pub mod Aggregates
pub mod Sums
pub mod Interval
pub mod SummaryRecord
pub mod LiveInterval
pub mod Summary
pub mod FlowSums
pub mod Flows
pub mod FlowRecords
unfoldable pub use Names.*
unfoldable pub use Explanations.*
unfoldable pub use Answer.*
