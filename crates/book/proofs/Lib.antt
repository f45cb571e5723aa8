pub mod SeenLaws
pub mod TablesLaws
