pub mod Progress
pub mod ProgressLaws
pub mod Settle
pub mod SettleLaws
pub mod Search
pub mod Ends
pub mod EndsLaws
pub mod SearchLaws
