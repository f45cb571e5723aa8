pub mod OrderLaws
pub mod PutStatesLaws
pub mod SortLaws
pub mod SortingLaws
pub mod StatewiseLaws
pub mod UpToLaws
