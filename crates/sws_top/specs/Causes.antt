-- The cause of each fault of a run, whatever its order; and when a run has done all.
use Rattle.std.specs.Prelude.{◌≡◌, ◌≢◌, ◌≤◌, ◌⊎◌, ◌↔◌, ℕ, Bool, false, List, length, Option, Some, None, IsSome, ⊤}
use Rattle.sws_link.specs.Counts.{Rose, HasCause}
use Rattle.sws_link.specs.declared.Folder.{Ghosts as FolderWords}
use Rattle.sws_link.specs.declared.Source.{Ghosts as SourceWords}
use Rattle.sws_link.specs.declared.Sink.{Ghosts as SinkWords}
use Rattle.sws_link.specs.declared.world.World.{Ghosts as WorldWords}
use Rattle.sws_handlers.specs.declared.ended.Ended.{Ended}
use Rattle.sws_handlers.specs.declared.ended.Verdict.TheVariants as verdict
use Rattle.sws_script.specs.Grammar.{Spells}
use Rattle.sws_link.specs.Limits.{conn_limit}
use Rattle.sws_script.specs.declared.input.Input.{Input}
use Rattle.sws_words.specs.Orders.{Order, answer, replay, serve, bench, check, gopher}
use Rattle.sws_top.specs.declared.faults.TopFault.TheVariants.{ReadFault, WriteFault, WorldFault, Memory, Apart}
use Rattle.sws_top.specs.declared.outcomes.Outcome.{Outcome}
use Rattle.sws_top.specs.Checked.{TellsDrainedRun}
use Rattle.sws_top.specs.Hands.{Hands}
use Rattle.sws_top.specs.Ranges.{run_shape}
use Rattle.sws_top.specs.Sites.{TellsWithinLimits}

-- the bytes are a text of an input that has no more connections than a script may
abbrev pub TellsInput : Bool → ℕ → Option (List ℕ) → Type 0
TellsInput schedule cores None = ⊥
TellsInput schedule cores (Some text) = (input : Input) × Spells schedule cores text input
    × (length input.conns ≤ conn_limit)

-- the world as it stands afterwards: handed back, or in what a run on it has left
abbrev pub IsLast : {W L : Type 0} → Outcome W L → W → Type 0
IsLast {W} {L} outcome last =
    (outcome.world ≡ Some last) ⊎ ((ended : Ended W L) × (outcome.ended ≡ Some ended)
    × (ended.world ≡ Some last))

-- what a run has left says that it lost this connection
abbrev pub HasLost : {W L : Type 0} → Outcome W L → ℕ → Type 0
HasLost {W} {L} outcome conn = (ended : Ended W L) × (outcome.ended ≡ Some ended)
    × (ended.verdict ≡ verdict.Apart conn)

module _ {F R W L O : Type 0} (f : FolderWords F) (r : SourceWords R) (x : WorldWords W L)
    (o : SinkWords O) (before now : Hands F R O) (world : W) (outcome : Outcome W L) where
  -- Each fault of the outside comes only where the count of what failed rose, and the sink's, the
  -- folder's and the source's counts stand where they have none. A connection is lost exactly where
  -- the run has left that verdict.
  pub record HasCauses : Type 0 where
    pub read : outcome.fault ≡ Some ReadFault
        → Rose (f.faults before.folder) (f.faults now.folder)
        ⊎ Rose (r.faults before.source) (r.faults now.source)
    pub no_read : outcome.fault ≢ Some ReadFault
        → (f.faults now.folder ≡ f.faults before.folder)
        × (r.faults now.source ≡ r.faults before.source)
    pub write : HasCause (o.faults before.out) (o.faults now.out) (outcome.fault ≡ Some WriteFault)
    pub world_failed : outcome.fault ≡ Some WorldFault → (last : W) × IsLast outcome last
        × Rose (x.faults world) (x.faults last)
    pub lost : (conn : ℕ) → (outcome.fault ≡ Some (Apart conn)) ↔ HasLost outcome conn
    -- either the world is handed back, or what a run on it has left
    pub either : (IsSome outcome.world × (outcome.ended ≡ None))
        ⊎ (IsSome outcome.ended × (outcome.world ≡ None))

  -- ---- when all is done

  -- the site and the script of the order are within their grammar and their limits, and its journal
  -- is that of a legal and drained run
  abbrev pub IsSound : Order → Type 0
  IsSound (answer path date) = TellsWithinLimits (f.tells before.folder)
  IsSound (replay path shape date journal schedule log) =
      TellsWithinLimits (f.tells before.folder)
      × TellsInput schedule shape.cores (r.left before.source)
  IsSound (serve path port connections shape date log) = TellsWithinLimits (f.tells before.folder)
  IsSound (bench connections number shape) = ⊤
  IsSound (check connections shape log) =
      TellsDrainedRun connections log (run_shape shape) (r.left before.source)
  IsSound (gopher path host port None shape journal) = TellsWithinLimits (f.tells before.folder)
      × TellsInput false shape.cores (r.left before.source)
  IsSound (gopher path host port (Some connections) shape journal) =
      TellsWithinLimits (f.tells before.folder)

  -- nothing of the outside failed
  pub record NothingFailed : Type 0 where
    pub folder : ¬ (Rose (f.faults before.folder) (f.faults now.folder))
    pub source : ¬ (Rose (r.faults before.source) (r.faults now.source))
    pub out : ¬ (Rose (o.faults before.out) (o.faults now.out))
    pub last : (last : W) → IsLast outcome last → ¬ (Rose (x.faults world) (x.faults last))

  -- all was done, or there was no memory
  abbrev pub IsDone : Type 0
  IsDone = (outcome.fault ≡ None) ⊎ (outcome.fault ≡ Some Memory)
