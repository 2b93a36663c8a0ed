pub mod Prints
pub mod Lexing
pub mod Single
pub mod Once
pub mod Frames
pub mod Dues
