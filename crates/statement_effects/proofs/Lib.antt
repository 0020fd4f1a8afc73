pub mod Counts
pub mod Entering
pub mod JobBytes
pub mod Operands
pub mod Places
pub mod StatementsMean
