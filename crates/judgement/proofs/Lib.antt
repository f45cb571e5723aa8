pub mod CoverageLaws
