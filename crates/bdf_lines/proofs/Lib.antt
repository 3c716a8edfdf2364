pub mod Rest
pub mod Numbers
pub mod Tables
pub mod NumberLines
pub mod Stands
pub mod UsualForms
pub mod BitmapLines
pub mod FirstWords
