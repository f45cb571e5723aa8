pub mod Starts
pub mod StartsLaws
pub mod Lengths
pub mod Ahead
pub mod AheadLaws
pub mod LackingLaws
pub mod LengthsLaws
pub mod TableLaws
