-- What a contract sees of a folder in memory.
use Rattle.sws_link.specs.Calls.{CallsState}
use Rattle.sws_link.specs.SureFolder.{SureFolderState}

-- a folder with calls that fail
pub record MemFolderState : Type 0 where
  pub folder : SureFolderState
  pub calls : CallsState
