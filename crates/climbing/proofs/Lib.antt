pub mod Last
pub mod Pascal
