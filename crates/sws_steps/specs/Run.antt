-- Runs of a connection: the events that were run since it was opened over a link,
-- and how such a run ends.
use Rattle.std.specs.Prelude.{◌≡◌, true, false, List, [], ◌∷◌, Option, Some, None, ⊤}
use Rattle.sws_link.specs.declared.Link.{Ghosts as LinkWords}
use Rattle.sws_link.specs.Counts.{Rose}
use Rattle.sws_link.specs.Links.{IsInitialLink}
use Rattle.sws_steps.specs.Protocol.{Protocol}
use Rattle.sws_steps.specs.ConnCore.{ConnState}
use Rattle.sws_steps.specs.declared.End.{End}
use Rattle.sws_steps.specs.declared.End.TheVariants as ending
use Rattle.sws_steps.specs.declared.Next.TheVariants as next
use Rattle.sws_steps.specs.Step.{Steps, going_to, wait_limit}
use Rattle.sws_steps.specs.Sound.{core_before_open}
use Rattle.sws_steps.specs.Outcome.{UnlessMemory}
use Rattle.sws_steps.specs.declared.Handler.{Handler}
use Rattle.sws_steps.specs.declared.Handler.TheVariants as handler
use Rattle.sws_steps.specs.Path.{event_of, known_path}
use Rattle.sws_steps.specs.Serving.{Serves, EndsAs, RoseBy}

-- a connection that was just opened over a link
abbrev pub conn_at_open : {Hall L : Type 0} → Hall → L → ConnState Hall L
conn_at_open hall link = record {
  standing = going_to (core_before_open hall) next.Read;
  link = Some link;
}

-- these events are the whole path, where that is told
abbrev pub IsWhole : List Handler → Option (List Handler) → Type 0
IsWhole trail None = ⊤
IsWhole trail (Some path) = trail ≡ path

module _ {Hall Answer : Type 0} (p : Protocol Hall Answer) where
  -- these events lead from one connection to another, by a step each
  unfoldable pub RunsBy : {L : Type 0} → LinkWords L → List Handler → ConnState Hall L
      → ConnState Hall L → Type 0
  RunsBy x [] before after = after ≡ before
  RunsBy {L = L} x (event ∷ later) before after =
      (between : ConnState Hall L) × (event_of before.standing ≡ event ∷ [])
      × Steps p x before between × RunsBy x later between after

module _ {Hall Answer L : Type 0} (p : Protocol Hall Answer) (x : LinkWords L) (hall : Hall)
    (first : L) where
  -- the connection was opened over this link, which wasn't shut and of which nothing was taken or
  -- written before, and has run these events since
  pub record HasRun (trail : List Handler) (conn : ConnState Hall L) : Type 0 where
    pub limits : p.IsHall hall
    pub initial : IsInitialLink (x.tells first)
    pub not_shut : x.is_shut first ≡ false
    pub runs : RunsBy p x trail (conn_at_open hall first) conn

  -- a run has ended with this link and this end
  pub record HasEnded (now : L) (end : End) : Type 0 where
    pub trail : List Handler
    pub conn : ConnState Hall L
    pub run : HasRun trail conn
    pub closed : conn.standing.pending ≡ next.Nothing
    pub link_is : conn.link ≡ Some now
    pub end_is : conn.standing.end ≡ Some end

  -- how a run ends with which the link is shut, by the link before and after it
  pub record EndsRun (trail : List Handler) (now : L) (end : End) : Type 0 where
    -- what was written begins the responses, and where all is done it is the
    -- responses to the whole input
    pub serves : Serves p hall (x.tells first) (x.tells now) end
    -- a link that told its answers to come got exactly its outcome, by its whole path
    pub outcome : EndsAs p hall (x.tells first) (x.tells now) end
    pub path : UnlessMemory (Some end)
        (IsWhole (handler.Open ∷ trail) (known_path p hall (x.tells first)))
    pub shut : x.is_shut now ≡ true
    -- it failed in this run, or was not ready so often
    pub fault : end ≡ ending.Fault → Rose (x.faults first) (x.faults now)
    pub idle : end ≡ ending.Idle → RoseBy wait_limit (x.waits first) (x.waits now)
