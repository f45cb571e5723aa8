pub mod EntryLaws
pub mod ListLaws
pub mod NthLaws
pub mod ReadingLaws
