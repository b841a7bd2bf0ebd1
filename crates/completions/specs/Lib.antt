pub mod Completions
