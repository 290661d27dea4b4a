pub mod Small
pub mod Going
pub mod Refusing
pub mod Unique
pub mod Demand
