pub mod ShardExamples
