pub mod Items
pub mod Valid
pub mod EntryLaws
pub mod SpanLaws
pub mod WrittenLaws
pub mod Rearranged
pub mod RearrangedLaws
