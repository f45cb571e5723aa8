pub mod Entry
pub mod EntryLaws
pub mod List
pub mod ListLaws
pub mod NthLaws
pub mod Reading
pub mod ReadingLaws
pub mod RefusalLaws
