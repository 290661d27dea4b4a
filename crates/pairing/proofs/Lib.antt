pub mod Sights
pub mod PairReads
pub mod PairWrites
pub mod Fields
pub mod Unique
pub mod Demand
