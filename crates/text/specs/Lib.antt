pub mod Sizes
pub mod Cursors
pub mod Runs
pub mod Faults
pub mod Shown
pub mod Vocabularies
pub mod Readings
pub mod Parsing
