pub mod File
pub mod Kinds
pub mod Reading
pub mod Writing
