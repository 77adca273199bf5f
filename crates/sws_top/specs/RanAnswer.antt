-- What a run of `answer FOLDER [--date D]` did.
use Rattle.std.specs.Prelude.{◌≡◌, ℕ, List, Option}
use Rattle.sws_link.specs.declared.Folder.{Ghosts as FolderWords}
use Rattle.sws_link.specs.declared.Source.{Ghosts as SourceWords}
use Rattle.sws_link.specs.declared.Sink.{Ghosts as SinkWords}
use Rattle.sws_top.specs.declared.faults.TopFault.{TopFault}
use Rattle.sws_top.specs.Answered.{AnswersInput}
use Rattle.sws_top.specs.Hands.{Hands}
use Rattle.sws_top.specs.Sites.{RunsOnSite}

module _ {F R O : Type 0} (f : FolderWords F) (r : SourceWords R) (o : SinkWords O)
    (before now : Hands F R O) (fault : Option TopFault) where
  -- on the site, the connection whose input is the source's was answered, and
  -- the sink took the responses
  abbrev pub RanAnswer : List ℕ → Option ℕ → Type 0
  RanAnswer path date =
      RunsOnSite f path before.folder now.folder date fault
      ((now.source ≡ before.source) × (now.out ≡ before.out))
      (λ site. AnswersInput r o site before.source now.source before.out now.out fault)
