pub mod Slots
pub mod Pairs
