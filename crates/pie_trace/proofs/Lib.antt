mod Names
pub mod RunFacts
pub mod Examples
pub mod MigrateFacts
pub mod RunBack
mod WhatIfExamples
pub mod WhatIfFacts
