mod Looking
pub mod Closing
mod Givens
