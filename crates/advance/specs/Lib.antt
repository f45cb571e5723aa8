pub mod Nearest
pub mod NearestLaws
pub mod Round
pub mod RoundLaws
pub mod Push
pub mod PushLaws
