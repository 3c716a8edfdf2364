pub mod Walks
pub mod TwosComplement
pub mod Spelled
