pub mod Work
pub mod WorkLaws
