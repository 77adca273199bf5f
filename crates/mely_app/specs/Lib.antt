pub mod RanAll
pub mod Puts
pub mod InOrder
pub mod Unfinished
