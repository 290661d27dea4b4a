pub mod Telling
pub mod Drawing
