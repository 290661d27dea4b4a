pub mod Laying
pub mod Rewriting
pub mod Unique
pub mod Accepted
pub mod Demand
