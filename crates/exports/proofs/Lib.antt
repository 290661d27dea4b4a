pub mod Exports
pub mod Returns
pub mod Unique
