pub mod Capacity
pub mod Cursor
pub mod Due
pub mod Laws
pub mod Order
pub mod Waiting
