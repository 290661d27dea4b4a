pub mod Handing
pub mod Reads
