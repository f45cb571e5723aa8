pub mod Pending
pub mod Completes
pub mod CompletesLaws
pub mod Waiting
pub mod EventLaws
pub mod ExpandLaws
