pub mod Views
pub mod Playing
pub mod Writing
pub mod Whole
