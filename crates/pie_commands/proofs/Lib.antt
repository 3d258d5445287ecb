mod Names
mod Examples
mod TextKindFacts
mod ValueFacts
