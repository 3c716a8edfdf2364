pub mod Atlas
pub mod Row
