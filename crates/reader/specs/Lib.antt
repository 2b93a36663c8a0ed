pub mod Bodies
pub mod Faults
pub mod Heads
pub mod Rounds
pub mod Sofar
pub mod Whole
