pub mod Parts
pub mod Splicing
pub mod SortedParts
pub mod Laws
pub mod Order
pub mod Whole
