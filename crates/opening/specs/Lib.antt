pub mod Prepare
pub mod PrepareLaws
