pub mod Exits
pub mod Joins
