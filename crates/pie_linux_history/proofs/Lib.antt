mod Examples
mod LookBackExamples
pub mod ColumnFacts
pub mod QueueFacts
pub mod LookBackFacts
pub mod KnownFacts
pub mod RowFacts
pub mod AuditFacts
pub mod ReportFacts
pub mod CutFacts
pub mod CuttingFacts
