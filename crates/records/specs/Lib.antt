pub mod Head
pub mod Source
pub mod List
