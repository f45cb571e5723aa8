pub mod ListLaws
pub mod LongestLaws
