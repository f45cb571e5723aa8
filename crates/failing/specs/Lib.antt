pub mod Failing
pub mod Tests
pub mod FailingLaws
