pub mod ByteOrder
pub mod Completions
