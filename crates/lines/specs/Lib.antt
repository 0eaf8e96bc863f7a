pub mod Digits
pub mod Forms
pub mod Kinds
pub mod Reading
pub mod Steps
