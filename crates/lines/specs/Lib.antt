pub mod Counts
pub mod CountsLaws
pub mod Line
pub mod StateLaws
pub mod Parts
