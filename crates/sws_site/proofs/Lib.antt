pub mod LimitLemmas
pub mod FileLemmas
pub mod HeadLengthsLemmas
pub mod AgeLemmas
mod ContentTypeLemmas
mod HeaderLemmas
mod HeadLemmas
pub mod FolderLemmas
mod PlaceLemmas
mod SiteLemmas
mod LoadLemmas
pub mod NameLemmas
