pub mod Laws
pub mod Looking
pub mod Unique
pub mod Demand
