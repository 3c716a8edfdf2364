pub mod Rectangle
pub mod Layer
pub mod Canvas
pub mod Painted
