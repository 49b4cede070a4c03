-- Laws of weaving, sorting and leaving out, over any lists.
pub mod Weaves
pub mod SortedParts
pub mod LeastRange
pub mod Subsequences
