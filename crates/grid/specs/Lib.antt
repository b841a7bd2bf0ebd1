pub mod Counting
pub mod Grid
pub mod House
pub mod Completion
pub mod Refusals
pub mod Examples
