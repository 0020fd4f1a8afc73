pub mod Inputs
pub mod Lasting
pub mod PairValue
pub mod PlantValue
