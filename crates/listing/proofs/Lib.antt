pub mod Telling
pub mod Runs
