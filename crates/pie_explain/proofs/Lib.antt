mod Names
mod Examples
pub mod RecordFacts
pub mod ReportFacts
pub mod ExplainFacts
pub mod DecidedFacts
mod SummaryNames
pub mod CountFacts
pub mod RangeFacts
mod SummaryExamples
pub mod SpanFacts
pub mod SumsFacts
pub mod IntervalFacts
pub mod LiveFacts
pub mod FlowFacts
