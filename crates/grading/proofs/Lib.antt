pub mod Grading
pub mod Says
pub mod Calls
