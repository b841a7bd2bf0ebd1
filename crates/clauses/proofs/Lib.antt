pub mod Families
pub mod Members
pub mod ModelsAreCompletions
pub mod Numbers
pub mod ShapeNumber
pub mod Proper
pub mod Signed
pub mod Calls
