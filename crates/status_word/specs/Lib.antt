pub mod Status
pub mod BitRows
pub mod JumpRows
pub mod NumberRows
