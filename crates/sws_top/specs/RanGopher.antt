-- What a run of `gopher FOLDER --host H --port P ..` did.
use Rattle.std.specs.Prelude.{◌≡◌, ◌⊎◌, ℕ, Bool, false, List, [], Option, Some, None}
use Rattle.mely_history.specs.declared.shape.Shape.{Shape}
use Rattle.sws_link.specs.declared.Folder.{Ghosts as FolderWords}
use Rattle.sws_link.specs.declared.Link.{Ghosts as LinkWords}
use Rattle.sws_link.specs.declared.Source.{Ghosts as SourceWords}
use Rattle.sws_link.specs.declared.Sink.{Ghosts as SinkWords}
use Rattle.sws_link.specs.declared.world.World.{Ghosts as WorldWords}
use Rattle.sws_steps.specs.Protocol.{output_limit}
use Rattle.sws_steps.specs.Outcome.{outcome_of}
use Rattle.sws_steps.specs.Path.{path_of}
use Rattle.sws_steps.specs.declared.talk.Talk.{Ghosts as TalkWords}
use Rattle.sws_gopher.specs.Gopher.{gopher}
use Rattle.sws_gopher.specs.Menus.{Place, place_of}
use Rattle.sws_replay.specs.Expected.{Expected}
use Rattle.sws_top.specs.declared.faults.TopFault.{TopFault}
use Rattle.sws_top.specs.declared.faults.TopFault.TheVariants.{Memory}
use Rattle.sws_top.specs.declared.outcomes.Outcome.{Outcome}
use Rattle.sws_top.specs.Hands.{Hands}
use Rattle.sws_top.specs.RanReplay.{RunsScript}
use Rattle.sws_top.specs.RanServe.{IsBack, IsServeEnd}
use Rattle.sws_top.specs.Sites.{RunsOnSite}

-- what is expected of scripted connections of Gopher, out of a place: no line of a log
abbrev pub by_gopher : Place → Expected
by_gopher place = record {
  outcome = outcome_of gopher place;
  path = path_of gopher place;
  responses = gopher.responses_of place;
  log = λ conn bytes. [];
  input_limit = gopher.input_limit place;
  output_limit = output_limit gopher place;
}

-- A run in a hall of the site: there was no memory to prepare it, with all else untouched, or the
-- run went on with it.
abbrev pub RunsInHall : Option TopFault → Type 0 → Type 0 → Type 0
RunsInHall fault Untouched GoesOn = ((fault ≡ Some Memory) × Untouched) ⊎ GoesOn

module _ {F R O : Type 0} (f : FolderWords F) (r : SourceWords R) (o : SinkWords O)
    (before now : Hands F R O) (fault : Option TopFault) where
  -- on the site, in its hall, the source was read to its end as a script, which was run, and its
  -- text written
  abbrev pub RanGopherScript : (path host : List ℕ) → (port : ℕ) → Shape → (journal : Bool)
      → Type 0
  RanGopherScript path host port shape journal =
      RunsOnSite f path before.folder now.folder None fault
      ((now.source ≡ before.source) × (now.out ≡ before.out))
      (λ site. RunsInHall fault ((now.source ≡ before.source) × (now.out ≡ before.out))
      (RunsScript r o before.source now.source before.out now.out fault
      (by_gopher (place_of site host port)) shape false journal))

module _ {F W L O T G : Type 0} (f : FolderWords F) (x : WorldWords W L) (l : LinkWords L)
    (o : SinkWords O) (z : TalkWords T L G Place) (folder folder_now : F) (out out_now : O)
    (world : W) (outcome : Outcome W L) where
  -- on the site, in its hall, the world was opened and served, and the summary was written
  abbrev pub RanGopherServe : (path host : List ℕ) → (port connections : ℕ) → Shape → Type 0
  RanGopherServe path host port connections shape =
      RunsOnSite f path folder folder_now None outcome.fault
      ((out_now ≡ out) × IsBack world outcome)
      (λ site. RunsInHall outcome.fault ((out_now ≡ out) × IsBack world outcome)
      (IsServeEnd x l o z out out_now world outcome port connections shape false
      (place_of site host port)))

module _ {F R W L O T G : Type 0} (f : FolderWords F) (r : SourceWords R) (x : WorldWords W L)
    (l : LinkWords L) (o : SinkWords O) (z : TalkWords T L G Place) (before now : Hands F R O)
    (world : W) (outcome : Outcome W L) where
  -- a script without a number of connections, of which nothing is asked of the world; and else so
  -- many connections from outside, of which nothing is asked of the source
  abbrev pub RanGopher : (path host : List ℕ) → (port : ℕ) → Option ℕ → Shape → (journal : Bool)
      → Type 0
  RanGopher path host port None shape journal =
      RanGopherScript f r o before now outcome.fault path host port shape journal
      × IsBack world outcome
  RanGopher path host port (Some connections) shape journal = (now.source ≡ before.source)
      × RanGopherServe f x l o z before.folder now.folder before.out now.out world outcome path host
      port connections shape
