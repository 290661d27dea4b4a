pub mod NewForm
pub mod Placed
pub mod Published
pub mod HexExamples
pub mod NewDumpExamples
pub mod RangesExamples
