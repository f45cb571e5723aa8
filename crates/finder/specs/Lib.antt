pub mod Finder
pub mod FinderLaws
pub mod PairLaws
pub mod Fitting
pub mod FittingLaws
