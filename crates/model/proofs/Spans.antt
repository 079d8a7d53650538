pub mod Lists
pub mod Steps
pub mod Sections
pub mod Conditions
pub mod Extremes
pub mod Given
