pub mod Showing
pub mod SourceRuns
pub mod Placing
pub mod Origins
pub mod Whole
pub mod Literals
pub mod Walking
pub mod Nexts
