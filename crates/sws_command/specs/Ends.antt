-- How a run of the command ends.
use Rattle.std.specs.Prelude.{◌≡◌, ℕ, Bool, true, false, List, ◌++◌, [], ◌∷◌, Option, Some, None}
use Rattle.sws_link.specs.Counts.{HasCause}
use Rattle.sws_link.specs.declared.Folder.{Ghosts as FolderWords}
use Rattle.sws_link.specs.declared.Source.{Ghosts as SourceWords}
use Rattle.sws_link.specs.declared.Link.{Ghosts as LinkWords}
use Rattle.sws_link.specs.declared.Sink.{Ghosts as SinkWords}
use Rattle.sws_link.specs.declared.world.World.{Ghosts as WorldWords}
use Rattle.sws_steps.specs.declared.talk.Talk.{Ghosts as TalkWords}
use Rattle.sws_site.specs.Site.{SiteState}
use Rattle.sws_gopher.specs.Menus.{Place}
use Rattle.sws_words.specs.Orders.{Order, order_of}
use Rattle.sws_top.specs.declared.faults.TopFault.{TopFault}
use Rattle.sws_top.specs.declared.faults.TopFault.TheVariants.{WriteFault}
use Rattle.sws_top.specs.declared.outcomes.Outcome.{Outcome}
use Rattle.sws_top.specs.FaultLines.{fault_line}
use Rattle.sws_top.specs.Hands.{Hands}
use Rattle.sws_top.specs.Ran.{IsRefused, Ran}

-- a run without a fault has failed where its output could not be handed over at the end
abbrev pub last_fault : Option TopFault → Bool → Option TopFault
last_fault None true = None
last_fault None false = Some WriteFault
last_fault (Some fault) whole = Some fault

-- what is said of a fault, with the end of its line
abbrev pub said_of : TopFault → List ℕ
said_of fault = fault_line fault ++ (10 ∷ [])

-- the words were run, which left the sink so; then its output was handed over, or the sink failed;
-- and the fault is the run's, or one of writing
module _ {F R W L O T G T' G' : Type 0} (f : FolderWords F) (r : SourceWords R)
    (x : WorldWords W L) (l : LinkWords L) (o : SinkWords O) (y : TalkWords T L G SiteState)
    (z : TalkWords T' L G' Place) where
  pub record RunsToEnd (before now : Hands F R O) (world : W) (words : List (List ℕ))
      (fault : Option TopFault) : Type 0 where
    pub outcome : Outcome W L
    pub left : O
    pub whole : Bool
    pub refused : order_of words ≡ None → IsRefused before (record now { out = left }) world outcome
    pub ran : (order : Order) → order_of words ≡ Some order
        → Ran f r x l o y z before (record now { out = left }) world outcome order
    pub handed_over : HasCause (o.faults left) (o.faults now.out) (whole ≡ false)
    pub fault_is : fault ≡ last_fault outcome.fault whole
