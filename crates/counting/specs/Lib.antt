pub mod Cap
pub mod Falling
pub mod Sums
