pub mod Rule
pub mod Match
