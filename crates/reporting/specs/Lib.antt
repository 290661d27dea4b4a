pub mod Report
