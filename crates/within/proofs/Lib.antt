pub mod ReachingLaws
pub mod WithinLaws
