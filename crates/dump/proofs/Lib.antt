pub mod Keeping
pub mod Walking
pub mod Naming
pub mod Unique
pub mod Runs
