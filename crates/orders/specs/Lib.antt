pub mod Technique
pub mod Order
pub mod Place
pub mod Checked
