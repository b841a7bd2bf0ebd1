pub mod Grade
pub mod Says
