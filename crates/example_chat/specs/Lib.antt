pub mod Chats
pub mod Talked
