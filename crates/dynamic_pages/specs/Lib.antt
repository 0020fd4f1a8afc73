pub mod Notes
pub mod Pages
pub mod Registers
