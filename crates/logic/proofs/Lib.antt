pub mod Asking
mod Shrinking
mod Telling
pub mod Flattening
