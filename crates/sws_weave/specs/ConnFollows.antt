-- A connection of a run whose link told its answers to come.
use Rattle.std.specs.Prelude.{◌≡◌, ℕ, List, map, Some}
use Rattle.mely_event.specs.declared.event.Event.{Event}
use Rattle.sws_link.specs.declared.Link.{Ghosts as LinkWords}
use Rattle.sws_link.specs.Links.{LinkContents}
use Rattle.sws_link.specs.Scripts.{Script}
use Rattle.sws_steps.specs.declared.talk.Talk.{Ghosts as TalkWords}
use Rattle.sws_handlers.specs.declared.ended.Served.{Served}
use Rattle.sws_handlers.specs.Tasks.{event_for}

-- its trail is the path of the script, and bytes and end are its outcome
pub record ConnFollows {T L G H : Type 0} (l : LinkWords L) (y : TalkWords T L G H) (hall : H)
    (i : ℕ) (script : Script) (trail : List Event) (s : Served L) : Type 0 where
  pub path : trail ≡ map (event_for i) (y.path hall script)
  pub link : L
  pub there : s.link ≡ Some link
  pub tells : LinkContents
  pub told : l.tells link ≡ Some tells
  pub bytes : tells.written ≡ (y.outcome hall script).bytes
  pub end : s.end ≡ Some (y.outcome hall script).end
