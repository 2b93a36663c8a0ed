pub mod Filling
pub mod Moving
pub mod Numbers
pub mod Ranging
pub mod Rows
pub mod Same
pub mod Tabling
