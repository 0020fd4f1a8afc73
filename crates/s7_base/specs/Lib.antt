pub mod Blocks
pub mod Limits
pub mod Operands
pub mod Statements
