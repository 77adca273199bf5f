-- What a run leaves of a connection.
use Rattle.std.specs.Prelude.{◌≡◌, ◌≤◌, ◌↔◌, ◌⊎◌, ℕ, List, [], ◌∷◌, map, Option, None, Some, IsSome}
use Rattle.mely_event.specs.declared.event.Event.{Event}
use Rattle.sws_link.specs.declared.Link.{Ghosts as LinkWords}
use Rattle.sws_link.specs.declared.world.World.{Ghosts as WorldWords}
use Rattle.sws_steps.specs.declared.Next.TheVariants as next
use Rattle.sws_steps.specs.declared.talk.Talk.{Ghosts as TalkWords}
use Rattle.sws_conn.specs.Outcome.{UnlessMemory}
use Rattle.sws_steps.specs.declared.Handler.{Handler}
use Rattle.sws_conn.specs.Path.{TakesOff}
use Rattle.sws_conn.specs.Talks.{TalkView, unopened_view, reported_end, due, HasServed, path_to_come, IsDue}
use Rattle.sws_steps.specs.Talks.{LinesServed}
use Rattle.sws_handlers.specs.declared.ended.Served.{Served}
use Rattle.sws_handlers.specs.Loads.{LinkStands}
use Rattle.sws_handlers.specs.Tasks.{event_for}

module _ {W L T G H : Type 0} (x : WorldWords W L) (l : LinkWords L) (y : TalkWords T L G H)
    (hall : H) (first : W) (i : ℕ) where
  -- the link is that of the connection, as it was served: to which nothing was done, or whose answers
  -- gave the lines of its log; without one the connection was never opened
  abbrev pub LinkLeft : Option L → TalkView → Type 0
  LinkLeft None view = view ≡ unopened_view
  LinkLeft (Some now) view = (begun : L) × LinkStands x l first i begun
      × HasServed l (y.responses hall) (y.outcome hall) begun now view
      × ((view ≡ unopened_view) ⊎ LinesServed (y.log hall i) (l.tells begun) view)

  -- these steps come first on the path of a link that told its answers to come
  abbrev pub BeganPath : List Handler → TalkView → Type 0
  BeganPath [] view = view ≡ unopened_view
  BeganPath (step ∷ steps) view = (begun : L) × (rest : Option (List Handler))
      × LinkStands x l first i begun
      × UnlessMemory view.end
      (TakesOff (step ∷ steps) (path_to_come (y.path hall) (l.tells begun)) rest)
      × IsDue (due view) rest

  -- what is left of connection i: its link, its end, its counts, and the events that it ran
  pub record ConnLeft (trail : List Event) (s : Served L) : Type 0 where
    pub view : TalkView
    pub link : LinkLeft s.link view
    -- an end exactly where the link is shut
    pub end : s.end ≡ reported_end view
    pub closed : IsSome s.end ↔ (view.pending ≡ next.Nothing)
    pub read : s.read ≡ view.read
    pub few_read : s.read ≤ y.input_limit hall
    pub written : s.written ≡ view.written
    pub few_written : s.written ≤ y.output_limit hall
    -- how many lines it has given, whether or not they are in the log
    pub answered : s.answered ≡ view.lines
    -- without an event that wasn't due the trail is the steps that were run
    pub trailed : s.stray ≡ None → (ran : List Handler)
        × (trail ≡ map (event_for i) ran) × BeganPath ran view
