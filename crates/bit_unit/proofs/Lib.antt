pub mod Stacks
pub mod Values
