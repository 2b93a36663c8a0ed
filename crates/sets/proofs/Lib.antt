pub mod Bitwise
pub mod Members
