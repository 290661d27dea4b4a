pub mod Put
pub mod Unique
