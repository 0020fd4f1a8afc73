pub mod Fronts
pub mod Ceiling
pub mod Cutting
pub mod Shapes
pub mod Covering
pub mod Firsts
