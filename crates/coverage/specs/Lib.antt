pub mod CoverageLaws
pub mod Examples
pub mod ExamplesLaws
pub mod JoiningLaws
pub mod UnionLaws
