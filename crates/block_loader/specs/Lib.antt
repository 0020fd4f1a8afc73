pub mod Heads
pub mod Told
pub mod Fronts
pub mod Blocks
pub mod Faults
pub mod Least
pub mod Load
pub mod Sound
