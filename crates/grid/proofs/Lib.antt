pub mod Table
pub mod Counting
pub mod Least
pub mod Made
pub mod House
pub mod Checks
pub mod Completion
mod Examples
