pub mod Refusals
pub mod Signed
pub mod Machines
