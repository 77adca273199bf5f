pub mod Signs
pub mod Texts
pub mod Shown
pub mod SignsIn
pub mod Numbers
pub mod Lines
