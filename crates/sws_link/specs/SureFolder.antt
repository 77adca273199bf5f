-- What a contract sees of a folder in memory without calls that fail.
use Rattle.std.specs.Prelude.{Bool}
use Rattle.sws_link.specs.Told.{FolderContents}

-- a folder: what it tells, and whether a file is current
pub record SureFolderState : Type 0 where
  pub tells : FolderContents
  pub at_file : Bool
