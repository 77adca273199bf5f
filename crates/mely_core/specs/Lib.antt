pub mod CoreQueue
