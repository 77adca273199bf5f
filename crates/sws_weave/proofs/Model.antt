pub mod Agrees
pub mod Placed
pub mod HandlesLemmas
pub mod ToldLemmas
pub mod FirstLemmas
pub mod OpeningsLemmas
mod SchedulesLemmas
pub mod ScriptedLemmas
pub mod EngineLemmas
pub mod StepsLemmas
pub mod ScriptsLemmas
