pub mod Greetings
pub mod Counting
