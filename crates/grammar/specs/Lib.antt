pub mod Tokens
pub mod Grammar
pub mod Texts
pub mod Parts
