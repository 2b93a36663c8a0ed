pub mod Model
pub mod Kinds
pub mod Rows
pub mod Tables
