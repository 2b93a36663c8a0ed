pub mod Names
pub mod Legends
