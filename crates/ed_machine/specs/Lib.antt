pub mod State
pub mod Naming
pub mod Answers
pub mod Accepted
pub mod Refusals
pub mod Limits
pub mod Step
pub mod History
