pub mod Flags
pub mod Playing
pub mod Deciding
pub mod Writing
pub mod Making
