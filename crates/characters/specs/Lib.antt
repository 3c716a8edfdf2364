pub mod Refusal
pub mod Utf8
pub mod Ascii
pub mod Walker
pub mod Lines
pub mod Characters
