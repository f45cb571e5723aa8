pub mod Distances
pub mod DistancesLaws
pub mod Pass
pub mod PassLaws
pub mod TableLaws
pub mod StartLaws
pub mod GoalLaws
pub mod SingleLaws
