pub mod Contents
pub mod Call
