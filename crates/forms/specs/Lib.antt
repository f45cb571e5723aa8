pub mod AlikeLaws
pub mod Forms
pub mod FormsLaws
pub mod OrderLaws
pub mod RankLaws
