pub mod Fitting
pub mod Optional
pub mod Priorities
