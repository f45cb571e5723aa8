pub mod Decimal
pub mod DecimalLaws
pub mod Put
pub mod PutLaws
pub mod Text
pub mod TextLaws
