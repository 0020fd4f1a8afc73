pub mod Areas
pub mod InstructionSet
pub mod Rows
pub mod Sizes
