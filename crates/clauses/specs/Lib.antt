pub mod Literal
pub mod Clauses
pub mod Call
pub mod Models
pub mod Shape
pub mod Numbers
