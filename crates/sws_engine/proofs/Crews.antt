pub mod CrewStandsLemmas
pub mod StreamCameLemmas
pub mod LogTurnLemmas
pub mod CrewEndsLemmas
pub mod CrewPartsLemmas
