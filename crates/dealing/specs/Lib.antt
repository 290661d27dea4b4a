pub mod Pick
pub mod Split
