pub mod Reading
pub mod Entries
pub mod Kinds
pub mod Forms
