pub mod Course
pub mod CourseLaws
pub mod Turns
pub mod PlacesLaws
pub mod EntryLaws
pub mod AcceptedLaws
