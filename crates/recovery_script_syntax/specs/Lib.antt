pub mod Answers
pub mod Fields
pub mod Forms
pub mod Lines
pub mod Reading
pub mod Words
