pub mod Cause
pub mod CauseLaws
pub mod Lent
pub mod LentLaws
pub mod Number
pub mod NumberLaws
pub mod PairLaws
pub mod TestLaws
