-- Main states the main theorems; the other folders prove them.
pub mod Common
pub mod Words
pub mod Stands
pub mod Plan
pub mod Spans
pub mod Verdict
pub mod Main
