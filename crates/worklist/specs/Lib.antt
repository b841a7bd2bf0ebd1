pub mod Sums
pub mod Acting
