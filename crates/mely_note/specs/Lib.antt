pub mod Notes
pub mod ShowsNotes
