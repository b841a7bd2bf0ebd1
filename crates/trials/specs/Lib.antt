pub mod Known
pub mod Steps
