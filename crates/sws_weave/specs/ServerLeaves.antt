-- What a run of the server leaves, over a weave or on threads.
use Rattle.std.specs.Prelude.{◌≡◌, ◌≢◌, ◌+◌, ◌<◌, ◌⊎◌, ℕ, Bool, false, true, List, [], map, Some, None, IsSome, length, slice_get}
use Rattle.std.specs.List.{AllByRecursion, range_with_len}
use Rattle.mely_event.specs.declared.colour.Colour.{Colour}
use Rattle.mely_event.specs.declared.event.Event.{Event}
use Rattle.mely_history.specs.History.{ran_of}
use Rattle.mely_history.specs.Legal.{AreLegal, IsDrained}
use Rattle.mely_history.specs.Setup.{colours_of}
use Rattle.mely_history.specs.declared.entry.Entry.{Entry}
use Rattle.mely_history.specs.declared.setup.Setup.{Setup}
use Rattle.mely_history.specs.declared.shape.Shape.{Shape}
use Rattle.mely_machine.specs.Rules.{rules_of}
use Rattle.mely_weave.specs.Side.{shard_of}
use Rattle.sws_link.specs.declared.Link.{Ghosts as LinkWords}
use Rattle.sws_link.specs.declared.world.World.{Ghosts as WorldWords}
use Rattle.sws_link.specs.Contents.{IsPrefix}
use Rattle.sws_link.specs.Scripts.{Script}
use Rattle.sws_link.specs.Links.{input_of}
use Rattle.sws_link.specs.Worlds.{Coming, initial_contents}
use Rattle.sws_log.specs.Lines.{lines_within}
use Rattle.sws_steps.specs.declared.End.TheVariants as ending
use Rattle.sws_steps.specs.declared.talk.Talk.{Ghosts as TalkWords}
use Rattle.sws_handlers.specs.declared.ended.Served.{Served}
use Rattle.sws_handlers.specs.declared.ended.Ended.{Ended}
use Rattle.sws_handlers.specs.declared.ended.Verdict.TheVariants as verdict
use Rattle.sws_weave.specs.ConnFollows.{ConnFollows}
use Rattle.sws_weave.specs.ConnLeft.{ConnLeft}
use Rattle.sws_handlers.specs.Counting.{colours_over}
use Rattle.sws_handlers.specs.LogTurns.{lines_for}
use Rattle.sws_handlers.specs.Loads.{WorldStands, IsLineIn}
use Rattle.sws_weave.specs.ServerRun.{server_rules}

-- memory was refused before the first event: the world is handed back, and the lists are empty
pub record HasNotBegun {W L : Type 0} (world : W) (ended : Ended W L) : Type 0 where
  pub refused : ended.verdict ≡ verdict.Memory
  pub back : ended.world ≡ Some world
  pub none_accepted : ended.accepted ≡ 0
  pub sound : ended.failed ≡ false
  pub none_served : ended.served.items ≡ []
  pub no_history : ended.histories.items ≡ []
  pub no_trail : ended.trails.items ≡ []
  pub no_line : ended.log.items ≡ []

module _ {W L T G H : Type 0} (x : WorldWords W L) (l : LinkWords L) (y : TalkWords T L G H)
    (hall : H) (first : W) (ended : Ended W L) where
  -- connection i was served: it has its link and an end, and met no event that wasn't due
  pub record IsServed (log : Bool) (i : ℕ) (s : Served L) : Type 0 where
    pub has_link : IsSome s.link
    pub has_end : IsSome s.end
    pub no_stray : s.stray ≡ None
    -- with the log, the lines that it gave are all there, in their turn; where the world told its
    -- input, they are those of its answers that were written whole
    pub in_turn : log ≡ true
        → map (λ line. line.turn) (lines_for i ended.log.items) ≡ range_with_len 1 s.answered
    pub lines : log ≡ true → (coming : List Coming) (one : Coming)
        → (x.tells first).coming ≡ Some coming → slice_get coming i ≡ Some one
        → lines_for i ended.log.items
        ≡ lines_within s.written (y.log hall i (input_of (initial_contents one)))

module _ {W L T G H : Type 0} (x : WorldWords W L) (l : LinkWords L) (y : TalkWords T L G H)
    (shape : Shape) (hall : H) (first : W) (log : Bool) (ended : Ended W L) where
  -- the histories that the run left, as lists of entries
  abbrev pub histories_in : List (List Entry)
  histories_in = map (λ history. history.items) ended.histories.items

  -- by the shape, over the world that was handed in
  pub record HasRun : Type 0 where
    pub setup : Setup
    -- of the shape, with the server's handlers, and its first colour pinned
    pub rules : rules_of setup ≡ server_rules shape
    pub colours : colours_of setup ≡ colours_over (x.tells first).total log
    -- the histories, one for each shard, are legal, and drained unless memory was refused; each
    -- colour's trail is what was run of it
    pub legal : AreLegal setup histories_in
    pub shards : length histories_in ≡ shape.shards
    pub drained : ended.verdict ≢ verdict.Memory → (shard : ℕ) (history : List Entry)
        → slice_get histories_in shard ≡ Some history → IsDrained history
    pub trailed : (c : Colour) (history trail : List _)
        → slice_get (map (λ t. t.items) ended.trails.items) c.0 ≡ Some trail
        → slice_get histories_in (shard_of setup c) ≡ Some history → trail ≡ ran_of history c
    pub many_trails : length ended.trails.items ≡ colours_over (x.tells first).total log
    -- the lines of the log are of the connections that the trail of its colour names, in this
    -- order, and unless memory was refused of all that it names; each is one of its connection's
    -- log, and without the log there is none
    pub log_begins : (trail : List Event)
        → slice_get (map (λ t. t.items) ended.trails.items) ((x.tells first).total + 2) ≡ Some trail
        → IsPrefix (map (λ line. line.conn) ended.log.items) (map (λ event. event.arg) trail)
    pub log_runs : ended.verdict ≢ verdict.Memory → (trail : List Event)
        → slice_get (map (λ t. t.items) ended.trails.items) ((x.tells first).total + 2) ≡ Some trail
        → map (λ line. line.conn) ended.log.items ≡ map (λ event. event.arg) trail
    pub lines_told : AllByRecursion (λ line. (line.conn < (x.tells first).total)
        × IsLineIn (y.log hall) (x.tells first).coming line) ended.log.items
    pub unlogged : log ≡ false → ended.log.items ≡ []
    -- there is a member for each link; it has the link of its number, as it was served
    pub many_served : length ended.served.items ≡ (x.tells first).total
    pub conn : (i : ℕ) (s : Served L) (trail : List Event) → slice_get ended.served.items i ≡ Some s
        → slice_get (map (λ t. t.items) ended.trails.items) (i + 2) ≡ Some trail
        → ConnLeft x l y hall first i trail s
    -- the world is the one that was handed in: it has its port, gave so many links, failed only
    -- where its count of faults rose, and never where it is scripted
    pub stands : (world : W) → ended.world ≡ Some world
        → WorldStands x l first (record {
          world = world;
          accepted = ended.accepted;
          failed = ended.failed;
        })
    -- at Ok the world didn't fail, and all links were accepted; at World it failed
    pub sound : ended.verdict ≡ verdict.Ok → ended.failed ≡ false
    pub all_accepted : ended.verdict ≡ verdict.Ok → ended.accepted ≡ (x.tells first).total
    pub failed : ended.verdict ≡ verdict.World → ended.failed ≡ true
    -- unless memory was refused the world is there, no connection ended for want of memory, and
    -- each whose link was accepted was served; none is ever lost
    pub held : ended.verdict ≢ verdict.Memory → IsSome ended.world
    pub enough : ended.verdict ≢ verdict.Memory → (i : ℕ) (s : Served L)
        → slice_get ended.served.items i ≡ Some s → s.end ≢ Some ending.Memory
    pub served : ended.verdict ≢ verdict.Memory → (i : ℕ) (s : Served L) → i < ended.accepted
        → slice_get ended.served.items i ≡ Some s → IsServed x l y hall first ended log i s
    pub never_apart : (conn : ℕ) → ended.verdict ≢ verdict.Apart conn
    -- at Ok a connection whose link answers by a known script has run its path and come to its
    -- outcome
    pub follows : ended.verdict ≡ verdict.Ok → (coming : List Coming) (one : Coming)
        (script : Script) (i : ℕ) (s : Served L) (trail : List Event)
        → (x.tells first).coming ≡ Some coming → slice_get coming i ≡ Some one
        → one.answers ≡ Some script → slice_get ended.served.items i ≡ Some s
        → slice_get (map (λ t. t.items) ended.trails.items) (i + 2) ≡ Some trail
        → ConnFollows l y hall i script trail s

  -- memory was refused before the first event, or the server has run
  abbrev pub ServerLeaves : Type 0
  ServerLeaves = HasNotBegun first ended ⊎ HasRun
