pub mod Least
pub mod Tail
pub mod Reply
pub mod Demand
pub mod Unique
pub mod Planning
