-- A connection in a run: it was never opened, or has run some steps.
use Rattle.std.specs.Prelude.{◌≡◌, ◌⊎◌, ℕ, Bool, true, false, List, Option, Some, None, ⊤}
use Rattle.std.specs.List.{AllByRecursion}
use Rattle.sws_link.specs.declared.Link.{Ghosts as LinkWords}
use Rattle.sws_link.specs.Links.{LinkContents, IsInitialLink}
use Rattle.sws_log.specs.declared.line.LogLine.{LogLine}
use Rattle.sws_steps.specs.declared.talk.Talk.{Ghosts as TalkWords}
use Rattle.sws_steps.specs.Logs.{IsLineOf}
use Rattle.sws_steps.specs.declared.Handler.{Handler}
use Rattle.sws_conn.specs.Talks.{unopened_view}
use Rattle.sws_handlers.specs.declared.load.Load.{Load}
use Rattle.sws_handlers.specs.declared.load.Load.TheVariants as load
use Rattle.sws_handlers.specs.Handling.{Put}

-- an opening has a link, of which nothing was taken or written and which isn't shut,
-- and no other event has one
abbrev pub LoadSuits : {W L : Type 0} → LinkWords L → Bool → Option (Load W L) → Type 0
LoadSuits l true (Some (load.Link link)) = IsInitialLink (l.tells link) × (l.is_shut link ≡ false)
LoadSuits l true (Some (load.World held)) = ⊥
LoadSuits l true (Some (load.Line line)) = ⊥
LoadSuits l true None = ⊥
LoadSuits l false (Some (load.Link link)) = ⊥
LoadSuits l false (Some (load.World held)) = Unit {0}
LoadSuits l false (Some (load.Line line)) = Unit {0}
LoadSuits l false None = Unit {0}

module _ {T L G H : Type 0} (y : TalkWords T L G H) where
  -- the connection has no link, and nothing was done on it
  abbrev pub IsUnopened : T → Type 0
  IsUnopened talk = (y.link_of talk ≡ None) × (y.view_of talk ≡ unopened_view)

  -- some steps were run on the connection, over the link it began with
  pub record HasRunSome (talk : T) : Type 0 where
    pub first : L
    pub ran : List Handler
    pub is : y.has_run first ran talk

  -- the connection was never opened, or has run some steps
  abbrev pub IsUnopenedOrRan : T → Type 0
  IsUnopenedOrRan talk = IsUnopened talk ⊎ HasRunSome talk

-- the line of a load is the one of its turn in the log, by what the link told
abbrev pub CarriesLine : {W L : Type 0} → (List ℕ → List LogLine) → Option LinkContents
    → Option (Load W L) → Type 0
CarriesLine log tells None = ⊤
CarriesLine log tells (Some (load.World held)) = ⊤
CarriesLine log tells (Some (load.Link link)) = ⊤
CarriesLine log tells (Some (load.Line line)) = IsLineOf log tells line

-- each line that is put is one of the log of the connection with this number
abbrev pub PutsTold : {W L T G H : Type 0} → LinkWords L → TalkWords T L G H → ℕ → T
    → List (Put W L) → Type 0
PutsTold l y conn talk puts = (first : _) (trail : List Handler) → y.has_run first trail talk
    → AllByRecursion (λ put. CarriesLine (y.log (y.hall_of talk) conn) (l.tells first) put.2) puts
