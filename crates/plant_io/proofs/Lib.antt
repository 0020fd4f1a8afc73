pub mod Bytes
pub mod Found
pub mod Lasts
pub mod Reached
pub mod States
pub mod Whole
