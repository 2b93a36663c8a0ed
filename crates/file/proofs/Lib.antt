mod Every
pub mod Filing
pub mod Once
mod Putting
pub mod Spanning
