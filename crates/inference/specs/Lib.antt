pub mod Call
pub mod Job
