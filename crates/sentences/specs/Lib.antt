pub mod Sentences
pub mod Parts
