pub mod Finding
mod Branches
mod Exploring
mod AllDigits
pub mod Reports
