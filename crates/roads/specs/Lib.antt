pub mod Lowest
pub mod LowestLaws
pub mod Roads
pub mod RoadLaws
pub mod LeavingLaws
pub mod Pairs
pub mod PairLaws
