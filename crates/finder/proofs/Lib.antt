pub mod AlikeLaws
pub mod ToldLaws
