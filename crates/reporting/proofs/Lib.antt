pub mod Sizes
pub mod Gathering
pub mod Reporting
