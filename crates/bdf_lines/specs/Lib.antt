pub mod Words
pub mod Keywords
pub mod Rest
pub mod Table
pub mod Forms
pub mod Stands
