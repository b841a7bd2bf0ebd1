pub mod Knowing
pub mod Trying
pub mod Walking
