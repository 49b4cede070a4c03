pub mod Calls
pub mod Replaying
pub mod Lawful
pub mod Headline
pub mod Exit
pub mod Words
pub mod ProgramHooks
