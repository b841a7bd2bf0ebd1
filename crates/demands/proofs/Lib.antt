pub mod JobsCompared
pub mod GradingsCompared
pub mod SameGrid
