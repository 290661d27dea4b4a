pub mod Resuming
pub mod Unique
pub mod Demand
