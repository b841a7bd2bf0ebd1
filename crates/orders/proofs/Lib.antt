pub mod Techniques
pub mod Orders
pub mod Seen
pub mod Rules
