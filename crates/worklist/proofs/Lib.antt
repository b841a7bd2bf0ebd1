pub mod Rules
pub mod Literals
pub mod Sums
pub mod Lists
mod Weighing
mod Denying
mod Settling
mod Raising
pub mod Striking
mod Listing
mod Affirming
