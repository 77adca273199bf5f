pub mod KeptChain
pub mod Frames
pub mod Chains
