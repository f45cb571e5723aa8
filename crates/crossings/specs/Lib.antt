pub mod Crossings
pub mod Falling
pub mod FallingLaws
pub mod Pass
pub mod PassLaws
pub mod ReductionLaws
pub mod CrossingsLaws
