pub mod Outward
pub mod Inward
pub mod Checking
pub mod Unique
pub mod Trips
