pub mod Part
pub mod Phases
