pub mod Commands
pub mod Grammar
pub mod Orders
pub mod Told
