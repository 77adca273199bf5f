pub mod TableLimit
pub mod HandlerTable
pub mod TrailLog
