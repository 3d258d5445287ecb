mod Names
mod Making
mod Gathering
mod StormFacts
