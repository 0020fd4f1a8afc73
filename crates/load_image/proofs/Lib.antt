pub mod Fields
pub mod Blocks
pub mod Places
pub mod Whole
pub mod Steps
