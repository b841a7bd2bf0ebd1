pub mod Comparison
pub mod SameGrid
