pub mod Checks
pub mod Parts
pub mod Rows
pub mod Jobs
pub mod Says
pub mod Calls
