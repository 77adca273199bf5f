pub mod Classes
pub mod Victims
pub mod Marks
pub mod StealQueue
pub mod Links
pub mod Entering
pub mod StealTable
pub mod ColourList
