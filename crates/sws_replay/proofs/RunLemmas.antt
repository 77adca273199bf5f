-- What a run of a scripted world has served.
use Rattle.std.proofs.Common.{◌≡◌, ◌≢◌, ℕ, ◌+◌, ◌<◌, Bool, true, false, true≢false, List, [], ◌∷◌, Option, None, Some, Result, Ok, Err, IfOk, length, map, refl, sym, ap, ◌∙◌, subst, arith, inl, inr}
use Rattle.std.specs.Prelude.{slice_get, option_map, IsSome, IsTrue, IfErr, MatchResult}
use Rattle.std.specs.List.{AllByRecursion}
use Rattle.std.proofs.lemmas.Option.{same_Some, slice_get-map, slice_get_within}
use Rattle.mely_event.specs.declared.colour.Colour.{Colour}
use Rattle.mely_event.specs.declared.event.Event.{Event}
use Rattle.mely_history.specs.History.{ran_of}
use Rattle.mely_history.specs.declared.entry.Entry.{Entry}
use Rattle.mely_history.specs.declared.setup.Setup.{Setup}
use Rattle.mely_history.specs.declared.shape.Shape.{Shape}
use Rattle.mely_weave.proofs.Wholes.GatherLemmas.{get_there}
use Rattle.mely_weave.specs.Side.{shard_of}
use Rattle.sws_conn.specs.Talks.{TalkView, ServesLink, ServesTold}
use Rattle.sws_steps.specs.declared.End.{End}
use Rattle.sws_steps.specs.declared.End.TheVariants.{Memory}
use Rattle.sws_steps.specs.declared.talk.Talk.{Ghosts as TalkWords}
use Rattle.sws_weave.specs.ConnFollows.{ConnFollows}
use Rattle.sws_weave.specs.ConnLeft.{LinkLeft, ConnLeft}
use Rattle.sws_handlers.specs.Counting.{colours_over}
use Rattle.sws_handlers.specs.Tasks.{event_for}
use Rattle.sws_handlers.specs.LogTurns.{lines_for}
use Rattle.sws_handlers.specs.Loads.{IsComing, LinkStands, WorldStands}
use Rattle.sws_weave.specs.ServerLeaves.{HasRun, ServerLeaves}
use Rattle.sws_handlers.specs.declared.ended.Ended.{Ended}
use Rattle.sws_handlers.specs.declared.ended.Served.{Served}
use Rattle.sws_handlers.specs.declared.ended.Verdict.{Verdict}
use Rattle.sws_handlers.specs.declared.ended.Verdict.TheVariants as verdict
use Rattle.sws_link.specs.Links.{LinkContents, input_of}
use Rattle.sws_link.specs.MemLinks.{bytes_tell, mem_link_tells}
use Rattle.sws_link.specs.MemLink.{MemLinkState}
use Rattle.sws_link.specs.MemWorld.{MemWorldState}
use Rattle.sws_link.specs.Scripts.{Script}
use Rattle.sws_link.specs.Worlds.{Coming, WorldContents, initial_contents}
use Rattle.sws_link.specs.declared.Link.{Ghosts as LinkWords}
use Rattle.sws_link.specs.declared.world.World.{Ghosts as WorldWords}
use Rattle.sws_log.specs.Lines.{lines_within}
use Rattle.sws_log.specs.declared.line.LogLine.{LogLine}
use Rattle.sws_script.specs.Scripted.{coming_of, script_of, told_of}
use Rattle.sws_script.specs.declared.input.ScriptConn.{ScriptConn}
use Rattle.sws_replay.specs.Expected.{of_talk}
use Rattle.sws_replay.specs.Histories.{colour_for}
use Rattle.sws_replay.specs.Logs.{IsLog, log_alone}
use Rattle.sws_replay.specs.Runs.{HasLostNothing, IsServedAlone, ServesAll, histories_of, RunsWell}
use Rattle.sws_replay.specs.Transcripts.{alone}
use Rattle.sws_replay.specs.declared.fault.RunFault.{RunFault}
use Rattle.sws_replay.specs.declared.fault.RunFault.TheVariants as run_fault

-- what a map gives at a place
map_at : {A B : Type 0} (f : A → B) (xs : List A) (k : ℕ) (a : A) → slice_get xs k ≡ Some a → slice_get (map f xs) k ≡ Some (f a)
map_at f xs k a at = slice_get-map f xs k ∙ ap (λ o. option_map f o) at

some_of : {A : Type 0} (o : Option A) → IsSome o → (a : A) × (o ≡ Some a)
some_of None some = cc
some_of (Some a) some = (a, refl)

ok≢memory : verdict.Ok ≢ verdict.Memory
ok≢memory same = cc

-- ---- one connection

module _ {T G H : Type 0} (x : WorldWords MemWorldState MemLinkState) (l : LinkWords MemLinkState) (y : TalkWords T MemLinkState G H) (hall : H) (first : MemWorldState) (conns : List ScriptConn)
    (told : x.tells first ≡ told_of conns) (link_told : (link : MemLinkState) → l.tells link ≡ mem_link_tells link) where
  tells_is : (link : MemLinkState) (tells : LinkContents) → l.tells link ≡ Some tells → tells ≡ bytes_tell link.calls.failing link.bytes
  tells_is link tells is = same_Some tells (bytes_tell link.calls.failing link.bytes) (sym is ∙ link_told link)

  -- the link came with the input of its connection
  came : (i : ℕ) (conn : ScriptConn) (begun : MemLinkState) → slice_get conns i ≡ Some conn → LinkStands x l first i begun → l.tells begun ≡ Some (initial_contents (coming_of conn))
  came i conn begun at stands =
      let coming : IsComing (Some (map coming_of conns)) i (l.tells begun) = subst (λ (t : WorldContents). IsComing t.coming i (l.tells begun)) told stands.coming in
      let same : coming.0 ≡ coming_of conn = same_Some coming.0 (coming_of conn) (sym coming.1 ∙ map_at coming_of conns i conn at) in
      coming.2 ∙ ap (λ (c : Coming). Some (initial_contents c)) same

  -- what was taken and written of it, by the counts
  served_link : (i : ℕ) (conn : ScriptConn) (link : MemLinkState) (view : TalkView) → slice_get conns i ≡ Some conn → LinkLeft x l y hall first i (Some link) view
      → ServesLink (y.responses hall) (initial_contents (coming_of conn)) (bytes_tell link.calls.failing link.bytes) view
  served_link i conn link view at left =
      let serves : ServesTold (y.responses hall) (Some (initial_contents (coming_of conn))) (l.tells link) view =
      subst (λ (t : Option LinkContents). ServesTold (y.responses hall) t (l.tells link) view) (came i conn left.0 at left.1) left.2.told in
      subst (λ (t : LinkContents). ServesLink (y.responses hall) (initial_contents (coming_of conn)) t view) (tells_is link serves.0 serves.1) serves.2

  served_alone : (i : ℕ) (conn : ScriptConn) (s : Served MemLinkState) (trail : List Event) → slice_get conns i ≡ Some conn → ConnLeft x l y hall first i trail s → ConnFollows l y hall i (script_of conn) trail s
      → s.end ≢ Some Memory → IsServedAlone (of_talk y hall) conn s
  served_alone i conn s trail at left follows enough =
      let view : TalkView = left.view in
      let link : MemLinkState = follows.link in
      let serves = served_link i conn link view at (subst (λ (o : Option MemLinkState). LinkLeft x l y hall first i o view) follows.there left.link) in
      let end_is : s.end ≡ Some (alone (of_talk y hall) conn).end = follows.end in
      record {
        link = link;
        there = follows.there;
        end = end_is;
        fine = λ same. enough (end_is ∙ ap (λ (e : End). Some e) same);
        bytes = ap (λ (t : LinkContents). t.written) (sym (tells_is link follows.tells follows.told)) ∙ follows.bytes;
        consumes = serves.consumes;
        written = left.written ∙ serves.written (inr refl);
        few_written = left.few_written;
        read = left.read ∙ serves.read;
        few_read = left.few_read;
        input = serves.input;
      }

are_known : (n : ℕ) (P : LogLine → Type 0) (lines : List LogLine) → AllByRecursion (λ line. (line.conn < n) × P line) lines → AllByRecursion (λ line. line.conn < n) lines
are_known n P [] all = tt
are_known n P (line ∷ lines) all = (all.0.0, are_known n P lines all.1)

-- ---- all of them

module _ {T G H : Type 0} (x : WorldWords MemWorldState MemLinkState) (l : LinkWords MemLinkState) (y : TalkWords T MemLinkState G H) (hall : H) (shape : Shape) (first : MemWorldState) (conns : List ScriptConn) (ended : Ended MemWorldState MemLinkState)
    (told : x.tells first ≡ told_of conns) (link_told : (link : MemLinkState) → l.tells link ≡ mem_link_tells link)
    (well : ended.verdict ≡ verdict.Ok) (many_served : length ended.served.items ≡ (x.tells first).total) (log : Bool) (many_trails : length ended.trails.items ≡ colours_over (x.tells first).total log)
    (enough : (i : ℕ) (s : Served MemLinkState) → slice_get ended.served.items i ≡ Some s → s.end ≢ Some Memory) (left : (i : ℕ) (s : Served MemLinkState) (trail : List Event) → slice_get ended.served.items i ≡ Some s → slice_get (map (λ t. t.items) ended.trails.items) (i + 2) ≡ Some trail → ConnLeft x l y hall first i trail s)
    (follows : (coming : List Coming) (one : Coming) (script : Script) (i : ℕ) (s : Served MemLinkState) (trail : List Event) → (x.tells first).coming ≡ Some coming → slice_get coming i ≡ Some one → one.answers ≡ Some script
    → slice_get ended.served.items i ≡ Some s → slice_get (map (λ t. t.items) ended.trails.items) (i + 2) ≡ Some trail → ConnFollows l y hall i script trail s) where
  total_is : (x.tells first).total ≡ length conns
  total_is = ap (λ (t : WorldContents). t.total) told

  trail_at : (i : ℕ) → i < length conns → (trail : List Event) × (slice_get (map (λ t. t.items) ended.trails.items) (i + 2) ≡ Some trail)
  trail_at i low =
      let there = get_there ended.trails.items (i + 2) (omega (arith, low, many_trails, total_is)) in
      (there.0.items, map_at (λ t. t.items) ended.trails.items (i + 2) there.0 there.1)

  served_at : (i : ℕ) → i < length conns → (s : Served MemLinkState) × (slice_get ended.served.items i ≡ Some s)
  served_at i low = get_there ended.served.items i (omega (arith, low, many_served, total_is))

  followed : (i : ℕ) (conn : ScriptConn) (s : Served MemLinkState) (trail : List Event) → slice_get conns i ≡ Some conn → slice_get ended.served.items i ≡ Some s → slice_get (map (λ t. t.items) ended.trails.items) (i + 2) ≡ Some trail
      → ConnFollows l y hall i (script_of conn) trail s
  followed i conn s trail at there ran = follows (map coming_of conns) (coming_of conn) (script_of conn) i s trail (ap (λ (t : WorldContents). t.coming) told) (map_at coming_of conns i conn at) refl there ran

  serves_all : ServesAll (of_talk y hall) conns ended
  serves_all = record {
    well = well;
    many = many_served ∙ total_is;
    each = λ i conn s at there.
        let trail = trail_at i (slice_get_within conns i conn at) in
        served_alone x l y hall first conns told link_told i conn s trail.0 at (left i s trail.0 there trail.1) (followed i conn s trail.0 at there trail.1) (enough i s there);
  }

  -- ---- its log

  -- the lines of each connection are its own
  lines_are : (run : HasRun x l y shape hall first log ended) → log ≡ true → (i : ℕ) (conn : ScriptConn) → slice_get conns i ≡ Some conn → lines_for i ended.log.items ≡ log_alone (of_talk y hall) i conn
  lines_are run on i conn at =
      let low = slice_get_within conns i conn at in
      let s = served_at i low in
      let one = serves_all.each i conn s.0 at s.1 in
      let all = run.all_accepted well in
      let owed : i < ended.accepted = omega (arith, low, all, total_is) in
      (run.served (λ memory. ok≢memory (sym well ∙ memory)) i s.0 owed s.1).lines on (map coming_of conns) (coming_of conn) (ap (λ (t : WorldContents). t.coming) told) (map_at coming_of conns i conn at)
      ∙ ap (λ (n : ℕ). lines_within n (y.log hall i (input_of (initial_contents (coming_of conn))))) (one.written ∙ ap (λ (b : List ℕ). length b) one.bytes)

  log_is : (run : HasRun x l y shape hall first log ended) (kept : Bool) → log ≡ kept → IsLog (of_talk y hall) conns kept ended.log.items
  log_is run false is = run.unlogged is
  log_is run true is = record {
    known = subst (λ (n : ℕ). AllByRecursion (λ line. line.conn < n) ended.log.items) total_is (are_known _ _ ended.log.items run.lines_told);
    each = lines_are run is;
  }

  -- the events of its colour are of the connections of its lines
  log_ran : (run : HasRun x l y shape hall first log ended) → log ≡ true → (history : List Entry) → slice_get (histories_of ended) (shard_of run.setup (colour_for (length conns))) ≡ Some history
      → map (λ event. event.arg) (ran_of history (colour_for (length conns))) ≡ map (λ line. line.conn) ended.log.items
  log_ran run on history there =
      let many : length ended.trails.items ≡ (x.tells first).total + 2 + 1 = many_trails ∙ ap (colours_over (x.tells first).total) on in
      let trail = get_there ended.trails.items (length conns + 2) (omega (arith, many, total_is)) in
      let at : slice_get (map (λ t. t.items) ended.trails.items) (length conns + 2) ≡ Some trail.0.items = map_at (λ t. t.items) ended.trails.items (length conns + 2) trail.0 trail.1 in
      ap (λ (events : List Event). map (λ event. event.arg) events) (sym (run.trailed (colour_for (length conns)) history trail.0.items at there))
      ∙ sym (run.log_runs (λ memory. ok≢memory (sym well ∙ memory)) trail.0.items (ap (λ (n : ℕ). slice_get (map (λ t. t.items) ended.trails.items) (n + 2)) total_is ∙ at))

  -- what was run of a connection is its path
  path_ran : (setup : Setup)
      → ((c : Colour) (history : List Entry) (trail : List Event) → slice_get (map (λ t. t.items) ended.trails.items) c.0 ≡ Some trail → slice_get (histories_of ended) (shard_of setup c) ≡ Some history → trail ≡ ran_of history c)
      → (i : ℕ) (conn : ScriptConn) (history : List Entry) → slice_get conns i ≡ Some conn → slice_get (histories_of ended) (shard_of setup (colour_for i)) ≡ Some history
      → ran_of history (colour_for i) ≡ map (event_for i) (y.path hall (script_of conn))
  path_ran setup trailed i conn history at there =
      let low = slice_get_within conns i conn at in
      let trail = trail_at i low in
      let s = served_at i low in
      sym (trailed (colour_for i) history trail.0 trail.1 there) ∙ (followed i conn s.0 trail.0 at s.1 trail.1).path

-- ---- whole runs

-- what a run leaves that went well
has_run_well : {T G H : Type 0} (x : WorldWords MemWorldState MemLinkState) (l : LinkWords MemLinkState) (y : TalkWords T MemLinkState G H) (hall : H) (shape : Shape) (first : MemWorldState) (conns : List ScriptConn) (log : Bool) (ended : Ended MemWorldState MemLinkState)
    → HasRun x l y shape hall first log ended → x.tells first ≡ told_of conns → ((link : MemLinkState) → l.tells link ≡ mem_link_tells link)
    → ended.verdict ≡ verdict.Ok → RunsWell (of_talk y hall) shape conns log ended
has_run_well x l y hall shape first conns log ended run told link_told well =
    let enough = run.enough (λ same. ok≢memory (sym well ∙ same)) in
    record {
      serves = serves_all x l y hall shape first conns ended told link_told well run.many_served log run.many_trails enough run.conn (run.follows well);
      logged = log_is x l y hall shape first conns ended told link_told well run.many_served log run.many_trails enough run.conn (run.follows well) run log refl;
      served = record {
        setup = run.setup;
        rules = run.rules;
        colours = run.colours ∙ ap (λ (t : WorldContents). colours_over t.total log) told;
        shards = run.shards;
        legal = run.legal;
        drained = run.drained (λ same. ok≢memory (sym well ∙ same));
        paths = path_ran x l y hall shape first conns ended told link_told well run.many_served log run.many_trails enough run.conn (run.follows well) run.setup run.trailed;
        logged = log_ran x l y hall shape first conns ended told link_told well run.many_served log run.many_trails enough run.conn (run.follows well) run;
      };
    }

pub run_well : {T G H : Type 0} (x : WorldWords MemWorldState MemLinkState) (l : LinkWords MemLinkState) (y : TalkWords T MemLinkState G H) (hall : H) (shape : Shape) (first : MemWorldState) (conns : List ScriptConn) (log : Bool) (ended : Ended MemWorldState MemLinkState)
    → ServerLeaves x l y shape hall first log ended → x.tells first ≡ told_of conns → ((link : MemLinkState) → l.tells link ≡ mem_link_tells link)
    → ended.verdict ≡ verdict.Ok → RunsWell (of_talk y hall) shape conns log ended
run_well x l y hall shape first conns log ended (inl refused) told link_told well = absurd (ok≢memory (sym well ∙ refused.refused))
run_well x l y hall shape first conns log ended (inr run) told link_told well = has_run_well x l y hall shape first conns log ended run told link_told well

-- a scripted world doesn't fail
no_fault : (x : WorldWords MemWorldState MemLinkState) (l : LinkWords MemLinkState) (first : MemWorldState) (conns : List ScriptConn) (ended : Ended MemWorldState MemLinkState) → x.tells first ≡ told_of conns → IsSome ended.world → ended.failed ≡ true
    → ((world : MemWorldState) → ended.world ≡ Some world → WorldStands x l first (record { world = world; accepted = ended.accepted; failed = ended.failed })) → ⊥
no_fault x l first conns ended told some failed stands =
    let world = some_of ended.world some in
    true≢false (sym failed ∙ (stands world.0 world.1).sure (subst (λ (t : WorldContents). IsTrue t.scripted) (sym told) refl))

world≢memory : verdict.World ≢ verdict.Memory
world≢memory same = cc

apart≢memory : (conn : ℕ) → verdict.Apart conn ≢ verdict.Memory
apart≢memory conn same = cc

keeps_the_world : {T G H : Type 0} (x : WorldWords MemWorldState MemLinkState) (l : LinkWords MemLinkState) (y : TalkWords T MemLinkState G H) (hall : H) (shape : Shape) (first : MemWorldState) (conns : List ScriptConn) (log : Bool) (ended : Ended MemWorldState MemLinkState)
    → ServerLeaves x l y shape hall first log ended → x.tells first ≡ told_of conns → ended.verdict ≡ verdict.World → ⊥
keeps_the_world x l y hall shape first conns log ended (inl refused) told gone = world≢memory (sym gone ∙ refused.refused)
keeps_the_world x l y hall shape first conns log ended (inr run) told gone = no_fault x l first conns ended told (run.held (λ same. world≢memory (sym gone ∙ same))) (run.failed gone) run.stands

misses_nothing : {T G H : Type 0} (x : WorldWords MemWorldState MemLinkState) (l : LinkWords MemLinkState) (y : TalkWords T MemLinkState G H) (hall : H) (shape : Shape) (first : MemWorldState) (log : Bool) (ended : Ended MemWorldState MemLinkState)
    → ServerLeaves x l y shape hall first log ended → (conn : ℕ) → ended.verdict ≡ verdict.Apart conn → ⊥
misses_nothing x l y hall shape first log ended (inl refused) conn apart = apart≢memory conn (sym apart ∙ refused.refused)
misses_nothing x l y hall shape first log ended (inr run) conn apart = run.never_apart conn apart

loses_nothing : (v : Verdict) → (v ≡ verdict.World → ⊥) → ((conn : ℕ) → v ≡ verdict.Apart conn → ⊥) → HasLostNothing v
loses_nothing verdict.Ok world apart = tt
loses_nothing verdict.World world apart = world refl
loses_nothing (verdict.Apart conn) world apart = apart conn refl
loses_nothing verdict.Memory world apart = tt

pub lose_nothing : {T G H : Type 0} (x : WorldWords MemWorldState MemLinkState) (l : LinkWords MemLinkState) (y : TalkWords T MemLinkState G H) (hall : H) (shape : Shape) (first : MemWorldState) (conns : List ScriptConn) (log : Bool) (ended : Ended MemWorldState MemLinkState)
    → ServerLeaves x l y shape hall first log ended → x.tells first ≡ told_of conns → HasLostNothing ended.verdict
lose_nothing x l y hall shape first conns log ended leaves told =
    loses_nothing ended.verdict (keeps_the_world x l y hall shape first conns log ended leaves told) (misses_nothing x l y hall shape first log ended leaves)

-- what is given is the run that went well, and want of memory comes where the run met it
pub given_well : (P : Ended MemWorldState MemLinkState → Type 0) (ended : Ended MemWorldState MemLinkState) (result : Result (Ended MemWorldState MemLinkState) RunFault)
    → MatchResult result (λ given. (given ≡ ended) × (ended.verdict ≡ verdict.Ok)) (λ fault. (fault ≡ run_fault.Memory) × (ended.verdict ≡ verdict.Memory)) → (ended.verdict ≡ verdict.Ok → P ended) → IfOk result P
given_well P ended (Ok given) is well = subst P (sym is.0) (well is.1)
given_well P ended (Err fault) is well = tt

pub given_refused : (ended : Ended MemWorldState MemLinkState) (result : Result (Ended MemWorldState MemLinkState) RunFault)
    → MatchResult result (λ given. (given ≡ ended) × (ended.verdict ≡ verdict.Ok)) (λ fault. (fault ≡ run_fault.Memory) × (ended.verdict ≡ verdict.Memory)) → IfErr result (λ fault. fault ≡ run_fault.Memory)
given_refused ended (Ok given) is = tt
given_refused ended (Err fault) is = is.0
