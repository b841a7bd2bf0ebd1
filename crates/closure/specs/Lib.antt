pub mod Sets
pub mod Closure
pub mod Marks
pub mod Propagation
pub mod Job
pub mod Laws
