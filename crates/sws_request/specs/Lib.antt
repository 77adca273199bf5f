pub mod Head
pub mod Cuts
pub mod Scans
pub mod Request
pub mod RequestLaws
pub mod Requests
pub mod View
