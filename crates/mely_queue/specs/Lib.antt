pub mod ColourQueue
pub mod Invariant
pub mod Turn
