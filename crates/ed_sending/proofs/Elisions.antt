-- Elision buffers: what they show of their source's new text, and how they step.
pub mod InLine
pub mod ShownMembers
pub mod ShownUnits
pub mod Ranks
pub mod ElisionSigns
pub mod ElisionStep
