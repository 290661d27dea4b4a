pub mod Plan
pub mod Fields
pub mod Tail
