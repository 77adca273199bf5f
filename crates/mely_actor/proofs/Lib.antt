mod AnswerLemmas
mod WaitingLemmas
mod RunLemmas
mod RegisteredLemmas
mod NewsLemmas
mod ReorderLemmas
mod ReceiptLemmas
mod SenderLemmas
mod ChainLemmas
mod SerialLemmas
mod StatesLemmas
mod ReachedLemmas
mod KeptLemmas
pub mod SilentLemmas
pub mod PickLemmas
pub mod ListLemmas
pub mod MomentLemmas
