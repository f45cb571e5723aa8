pub mod Approach
pub mod LayerToLaws
pub mod SoonerLaws
pub mod NearLaws
pub mod WeightsLaws
pub mod Shortest
pub mod ShortestLaws
