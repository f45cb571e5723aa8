pub mod AlikeLaws
pub mod FormsLaws
pub mod WritingLaws
