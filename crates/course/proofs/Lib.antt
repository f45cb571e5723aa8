pub mod CourseLaws
pub mod TurnsLaws
