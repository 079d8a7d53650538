pub mod ListFacts
pub mod Seen
pub mod Basics
pub mod Form
