pub mod BlockRuns
pub mod EngineView
pub mod Meaning
pub mod Places
pub mod Rung
pub mod Stands
