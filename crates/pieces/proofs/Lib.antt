pub mod Walking
pub mod Format
