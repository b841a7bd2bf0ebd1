pub mod Tests
pub mod Bits
pub mod Positions
pub mod Writes
pub mod Thirds
pub mod Ways
pub mod Crowds
