pub mod State
pub mod Inside
pub mod Steps
pub mod Expressions
