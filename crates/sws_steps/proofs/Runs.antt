pub mod ScriptedPathLemmas
pub mod PathLemmas
pub mod RunLemmas
pub mod TalkLemmas
