pub mod Signed
pub mod Stored
