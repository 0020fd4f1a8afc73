pub mod Parts
pub mod Moves
pub mod Numbers
pub mod Words
pub mod Shifts
pub mod Bcd
