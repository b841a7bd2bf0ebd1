pub mod Listing
pub mod Stream
pub mod Lister
