pub mod Holding
pub mod Spelling
