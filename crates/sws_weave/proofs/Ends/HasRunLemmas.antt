-- What a run leaves, of the parts of its weave: its connections were served, and none is ever lost.
use Rattle.std.proofs.Common.{◌≡◌, ◌≢◌, ℕ, ◌+◌, ◌≤◌, ◌<◌, Bool, true, false, true≢false, List, [], ◌++◌, Option, None, Some, length, map, refl, sym, ◌∙◌, ap, subst, arith, inl, inr}
use Rattle.std.proofs.lemmas.List.{length-map}
use Rattle.std.proofs.lemmas.Option.{slice_get_within}
use Rattle.std.proofs.lemmas.Bool.Decides.{nat_tests}
use Rattle.std.specs.List.{AllByRecursion}
use Rattle.std.specs.Prelude.{slice_get, is_some, is_none, IsSome, option_map, not, nat_lt, ◌&&◌, ◌||◌}
use Rattle.mely_event.specs.declared.colour.Colour.{Colour}
use Rattle.mely_event.specs.declared.event.Event.{Event}
use Rattle.mely_history.specs.History.{ran_of}
use Rattle.mely_history.specs.Legal.{AreLegal}
use Rattle.mely_history.specs.Setup.{colours_of}
use Rattle.mely_history.specs.declared.entry.Entry.{Entry}
use Rattle.mely_history.specs.declared.setup.Setup.{Setup}
use Rattle.mely_history.specs.declared.shape.Shape.{Shape}
use Rattle.mely_weave.proofs.Wholes.GatherLemmas.{get_there}
use Rattle.mely_machine.specs.Rules.{Rules, rules_of}
use Rattle.mely_weave.specs.Side.{shard_of}
use Rattle.mely_weave.specs.declared.draining.Drained.{Drained}
use Rattle.mely_weave.specs.declared.draining.Drained.TheVariants as drained
use Rattle.mely_weave.specs.declared.parts.WeaveParts.{WeaveParts}
use Rattle.mely_tally.specs.Tallies.{carried_by}
use Rattle.sws_link.specs.declared.Link.{Ghosts as LinkWords}
use Rattle.sws_link.specs.declared.world.World.{Ghosts as WorldWords}
use Rattle.sws_steps.specs.declared.End.{End}
use Rattle.sws_steps.specs.declared.End.TheVariants as ending
use Rattle.sws_steps.specs.declared.Next.{Next}
use Rattle.sws_steps.specs.declared.Next.TheVariants as next
use Rattle.sws_steps.specs.declared.talk.Talk.{Ghosts as TalkWords}
use Rattle.sws_conn.specs.Talks.{due, due_after}
use Rattle.sws_conn.specs.Conn.{reported_by}
use Rattle.sws_handlers.specs.declared.ended.Served.{Served}
use Rattle.sws_handlers.specs.declared.ended.Ended.{Ended}
use Rattle.sws_handlers.specs.declared.ended.Verdict.{Verdict}
use Rattle.sws_handlers.specs.declared.ended.Verdict.TheVariants as verdict
use Rattle.sws_handlers.specs.declared.load.WorldLoad.{WorldLoad}
use Rattle.sws_handlers.specs.declared.load.Load.{Load}
use Rattle.sws_handlers.specs.KeptLines.{KeptLinesState, no_lines}
use Rattle.sws_handlers.specs.Place.{PlaceState}
use Rattle.sws_weave.specs.PartsKept.{PartsKept}
use Rattle.sws_weave.specs.CrewEnds.{CrewEnds}
use Rattle.sws_weave.specs.ServerRun.{server_rules}
use Rattle.sws_weave.specs.RunFits.{RunFits}
use Rattle.sws_handlers.specs.declared.place.Seat.{Seat}
use Rattle.sws_handlers.specs.declared.place.Role.TheVariants.{Talking}
use Rattle.sws_handlers.specs.Counting.{colours_over}
use Rattle.sws_handlers.specs.RunLeaves.{lines_in, Talker, talkers, resting_in, ShowsSeat, RoleTells, StateTells, is_lacking, is_out_of_turn, is_out_of_memory, links_owed, AreWhole, NoneOutOfMemory, VerdictIs, lines_kept}
use Rattle.std.specs.List.{range_with_len}
use Rattle.sws_log.specs.declared.line.LogLine.{LogLine}
use Rattle.sws_handlers.specs.declared.place.Role.{Role}
use Rattle.sws_handlers.specs.LogTurns.{turns_of}
use Rattle.sws_weave.specs.RunStands.{at_seat}
use Rattle.sws_handlers.specs.Served.{SeatServes}
use Rattle.sws_handlers.proofs.Ends.LogTurnsLemmas.{all_numbered}
use Rattle.sws_handlers.specs.Handing.{served_with_loads, world_with_loads}
use Rattle.sws_handlers.specs.Conclusion.{is_whole, accepted_of, failed_of, ways_of, world_found, IsConcluded}
use Rattle.sws_weave.specs.ServerLeaves.{HasRun, histories_in}
use Rattle.sws_weave.proofs.Ends.ConcludedLemmas.{all_at, from_map, log_stands, whole_is, judged, served_many, conn_left, world_is_ours, log_begins, log_runs, lines_told, unlogged, is_served, conn_follows}
use Rattle.sws_weave.proofs.Ends.SeatsOfRunLemmas.{SeatsStand, seats_stand}
use Rattle.sws_weave.proofs.Balances.ConcludesLemmas.{RunEnds, run_ends}

-- where nothing is due, nothing is pending
none_pending : (waiting : Bool) (pending : Next) → due_after (reported_by waiting pending) ≡ None → pending ≡ next.Nothing
none_pending true pending none = cc
none_pending false next.Open none = cc
none_pending false next.Read none = cc
none_pending false next.Parse none = cc
none_pending false next.Look none = cc
none_pending false next.Write none = cc
none_pending false next.Wait none = cc
none_pending false next.Close none = cc
none_pending false next.Nothing none = refl

some_there : {A : Type 0} (o : Option A) → IsSome o → is_none o ≡ false
some_there None some = cc
some_there (Some a) some = refl

not_none : {A : Type 0} (o : Option A) → (o ≡ None → ⊥) → is_none o ≡ false
not_none None isnt = absurd (isnt refl)
not_none (Some a) isnt = refl

not_less : (a b : ℕ) → nat_lt a b ≡ false → b ≤ a
not_less a b is = grind (arith, nat_tests)

-- a connection whose link is shut, and that met no stray event, lacks nothing
module _ {W L T G H : Type 0} (y : TalkWords T L G H) (talker : Talker H W T) (s : Served L) (shows : ShowsSeat y talker.seat s) (closed : due (y.view_of talker.seat.talk) ≡ None) (unstrayed : talker.seat.stray ≡ None) where
  nothing : (y.view_of talker.seat.talk).pending ≡ next.Nothing
  nothing = none_pending (y.view_of talker.seat.talk).waiting (y.view_of talker.seat.talk).pending closed

  no_link : s.link ≡ None → ⊥
  no_link none = let initial : (y.view_of talker.seat.talk).pending ≡ next.Open = shows.linked.0 none in let both : next.Nothing ≡ next.Open = sym nothing ∙ initial in cc

  lacks_nothing : is_lacking s ≡ false
  lacks_nothing =
      ap (λ b. (b || is_none s.end) || is_some s.stray) (not_none s.link no_link)
      ∙ ap (λ b. (false || b) || is_some s.stray) (some_there s.end (shows.closed.1 nothing))
      ∙ ap (λ o. (false || false) || is_some o) (shows.stray ∙ unstrayed)

-- the links that were to be served were all accepted
owed_below : (failed : Bool) (accepted total i : ℕ) → not failed && nat_lt accepted total ≡ false → i < links_owed failed accepted total → i < total → i < accepted
owed_below true accepted total i ended low under = low
owed_below false accepted total i ended low under = let more : total ≤ accepted = not_less accepted total ended in omega (arith, more, under)

pub not_refused : (end : Option End) → is_out_of_memory end ≡ false → end ≢ Some ending.Memory
not_refused end enough same = true≢false (ap is_out_of_memory (sym same) ∙ enough)

-- a link that was accepted was to be served
pub owed_from : (failed : Bool) (accepted total i : ℕ) → accepted ≤ total → i < accepted → i < links_owed failed accepted total
owed_from true accepted total i within low = low
owed_from false accepted total i within low = omega (arith, within, low)

-- a run to which no memory was refused, and that lost no connection, was whole
was_whole : {L : Type 0} (kept : Option (List LogLine)) (served : List (Served L)) (whole there failed : Bool) (total accepted : ℕ) (told : Verdict) → told ≢ verdict.Memory → ((conn : ℕ) → told ≢ verdict.Apart conn) → VerdictIs kept served whole total there accepted failed told
    → (there ≡ true) × NoneOutOfMemory served × AreWhole kept served (links_owed failed accepted total)
was_whole kept served whole there failed total accepted verdict.Ok isnt apart is = (is.1, is.0.enough, is.3)
was_whole kept served whole there failed total accepted verdict.World isnt apart is = (is.1, is.0.enough, is.3)
was_whole kept served whole there failed total accepted (verdict.Apart conn) isnt apart is = absurd (apart conn refl)
was_whole kept served whole there failed total accepted verdict.Memory isnt apart is = absurd (isnt refl)

module _ {W L T G H : Type 0} (x : WorldWords W L) (l : LinkWords L) (y : TalkWords T L G H) (shape : Shape) (setup : Setup) (hall : H) (first : W) (log : Bool) (how : Drained) (parts : WeaveParts (PlaceState H W T) (Load W L)) (ended : Ended W L)
    (rules : rules_of setup ≡ server_rules shape) (colours : colours_of setup ≡ colours_over (x.tells first).total log)
    (kept : PartsKept x y setup first log how (map (λ history. history.items) parts.histories.items) parts.states.items (map (λ events. events.items) parts.queued.items))
    (crew : how ≡ drained.Empty → parts.lost.items ≡ [] → CrewEnds y (x.tells first).total log parts.states.items)
    (fits : RunFits x l first hall parts.states.items (map (λ events. events.items) parts.queued.items) parts.lost.items)
    (is : IsConcluded y (x.tells first).total log how parts ended)
    (tell : AllByRecursion (StateTells x l y) parts.states.items) where
  abbrev total : ℕ
  total = (x.tells first).total

  seats : SeatsStand total parts.states.items
  seats = seats_stand total log parts.states.items kept.many kept.placed

  found_many : length is.found ≡ total
  found_many = is.shows.many ∙ seats.many

  -- where all was run, nothing is under way
  module _ (empty : how ≡ drained.Empty) (none_lost : parts.lost.items ≡ []) where
    ends : RunEnds y total parts.states.items seats.desk
    ends = run_ends y total parts.states.items (λ i place at. (kept.placed i place at).colour) (crew empty none_lost).stands seats.place seats.desk seats.first seats.polls

    none_left : ways_of y total log how parts ended ≡ []
    none_left = ap (λ (l : List (Event × Option (Load W L))). l ++ carried_by parts.lost.items) (kept.emptied empty) ∙ ap (λ l. carried_by l) none_lost

    pub served_are : ended.served.items ≡ is.found
    served_are = is.served ∙ ap (λ (l : List (Event × Option (Load W L))). served_with_loads l is.found) none_left

    world_is : world_found y total log how parts ended ≡ Some ends.held
    world_is = ap (λ (l : List (Event × Option (Load W L))). world_with_loads l (resting_in None parts.states.items)) none_left ∙ seats.resting ∙ ends.rests

    there_is : is_some ended.world ≡ true
    there_is = ap is_some (is.world ∙ ap (λ (o : Option (WorldLoad W)). option_map (λ held. held.world) o) world_is)

    unended : not ended.failed && nat_lt ended.accepted total ≡ false
    unended =
        ap (λ (b : Bool). not b && nat_lt ended.accepted total) (is.failed ∙ ap (λ (o : Option (WorldLoad W)). failed_of o) world_is)
        ∙ ap (λ (n : ℕ). not ends.held.failed && nat_lt n total) (is.accepted ∙ ap (λ (o : Option (WorldLoad W)). accepted_of o) world_is)
        ∙ ends.ended

    all_whole : (lines_in no_lines parts.states.items).lost ≡ false → AreWhole (lines_kept log ended.log.items) ended.served.items (links_owed ended.failed ended.accepted total)
    all_whole kept_all i s low at =
        let here : slice_get is.found i ≡ Some s = ap (λ (l : List (Served L)). slice_get l i) (sym served_are) ∙ at in
        let under : i < total = (let within = slice_get_within is.found i s here in omega (arith, within, found_many)) in
        let many = seats.many in
        let talker = get_there (talkers parts.states.items) i (omega (arith, under, many)) in
        let from = seats.each i talker.0 talker.1 in
        let conn = ends.conn i talker.0.place talker.0.seat under from.there from.talks in
        let accepted_same : ended.accepted ≡ ends.held.accepted = is.accepted ∙ ap (λ (o : Option (WorldLoad W)). accepted_of o) world_is in
        let below = owed_below ended.failed ended.accepted total i unended low under in
        let shows = is.shows.each i talker.0 s talker.1 here in
        let whole : is_lacking s ≡ false = lacks_nothing y talker.0 s shows (conn.closed (omega (arith, below, accepted_same))) conn.no_stray in
        let serves : SeatServes x l y talker.0.place talker.0.seat = subst (λ (r : Role W T). RoleTells x l y talker.0.place r) from.talks (all_at (StateTells x l y) parts.states.items (i + 2) talker.0.place tell from.there) in
        ap (λ (b : Bool). b || is_out_of_turn (lines_kept log ended.log.items) i s) whole ∙ in_turn log refl i s talker.0.place talker.0.seat under from.there from.talks (shows.answered ∙ serves.answered)
      where
        -- with the log, all lines that the connection gave came, in order
        lines_all : log ≡ true → (i : ℕ) (s : Served L) (place : PlaceState H W T) (seat : Seat T) → i < total → slice_get parts.states.items (i + 2) ≡ Some place → place.role ≡ Talking seat → s.answered ≡ (y.view_of seat.talk).lines → turns_of i ended.log.items ≡ range_with_len 1 s.answered
        lines_all on i s place seat under there talks answered =
            let count : length parts.states.items ≡ total + 2 + 1 = kept.many ∙ ap (λ (b : Bool). colours_over total b) on in
            let last = get_there parts.states.items (total + 2) (omega (arith, count)) in
            let all = (crew empty none_lost).in_turn on i under last.0 place last.1 there in
            let came : ended.log.items ≡ (lines_in no_lines parts.states.items).came = is.kept ∙ (log_stands x l y hall first log how parts ended kept.many kept.placed kept.of_world fits is tell last.0 last.1).1.all kept_all in
            let sent : at_seat (λ (k : Seat T). (y.view_of k.talk).lines) place.role ≡ (y.view_of seat.talk).lines = ap (λ (r : Role W T). at_seat (λ (k : Seat T). (y.view_of k.talk).lines) r) talks in
            ap (λ (ls : List LogLine). turns_of i ls) (came ∙ ap (λ (ls : KeptLinesState). ls.came) (seats.logged last.0 last.1)) ∙ all ∙ ap (λ (n : ℕ). range_with_len 1 n) (sent ∙ sym answered)

        in_turn : (b : Bool) → log ≡ b → (i : ℕ) (s : Served L) (place : PlaceState H W T) (seat : Seat T) → i < total → slice_get parts.states.items (i + 2) ≡ Some place → place.role ≡ Talking seat → s.answered ≡ (y.view_of seat.talk).lines → is_out_of_turn (lines_kept log ended.log.items) i s ≡ false
        in_turn false off i s place seat under there talks answered = ap (λ (b : Bool). is_out_of_turn (lines_kept b ended.log.items) i s) off
        in_turn true on i s place seat under there talks answered =
            ap (λ (b : Bool). is_out_of_turn (lines_kept b ended.log.items) i s) on
            ∙ ap not (all_numbered s.answered (turns_of i ended.log.items) (lines_all on i s place seat under there talks answered))

    pub within : ended.accepted ≤ total
    within = (world_is_ours x l y hall first log how parts ended kept.many kept.placed kept.of_world fits is tell ends.held.world (is.world ∙ ap (λ (o : Option (WorldLoad W)). option_map (λ held. held.world) o) world_is)).within

    -- where the world didn't fail all links were accepted
    pub accepted_all : ended.failed ≡ false → ended.accepted ≡ total
    accepted_all fine =
        let more : total ≤ ended.accepted = not_less ended.accepted total (ap (λ (b : Bool). not b && nat_lt ended.accepted total) (sym fine) ∙ unended) in
        omega (arith, more, within)

    -- at Ok each link was accepted
    below_all : ended.failed ≡ false → (i : ℕ) → i < total → i < ends.held.accepted
    below_all fine i under =
        let accepted_same : ended.accepted ≡ ends.held.accepted = is.accepted ∙ ap (λ (o : Option (WorldLoad W)). accepted_of o) world_is in
        let low : i < links_owed ended.failed ended.accepted total = subst (λ (b : Bool). i < links_owed b ended.accepted total) (sym fine) under in
        let below = owed_below ended.failed ended.accepted total i unended low under in
        omega (arith, below, accepted_same)

    not_apart : (lines_in no_lines parts.states.items).lost ≡ false → (conn : ℕ) → VerdictIs (lines_kept log ended.log.items) ended.served.items (is_whole how parts.lost.items (lines_in no_lines parts.states.items)) total (is_some ended.world) ended.accepted ended.failed (verdict.Apart conn) → ⊥
    not_apart kept_all conn told = elim told.1 [
      | inl lacking ↦ true≢false (sym lacking.lacks ∙ all_whole kept_all conn lacking.s lacking.below lacking.there)
      | inr gone ↦ true≢false (sym there_is ∙ gone.0)
    ]

  abbrev lines : KeptLinesState
  lines = lines_in no_lines parts.states.items

  abbrev Told : Verdict → Type 0
  Told v = VerdictIs (lines_kept log ended.log.items) ended.served.items (is_whole how parts.lost.items lines) total (is_some ended.world) ended.accepted ended.failed v

  pub told_as : (v : Verdict) → ended.verdict ≡ v → Told v
  told_as v same = subst Told same is.verdict

  -- unless memory was refused, all was run
  pub ran_whole : ended.verdict ≢ verdict.Memory → (how ≡ drained.Empty) × (parts.lost.items ≡ []) × (lines.lost ≡ false)
  ran_whole isnt =
      let whole = judged (lines_kept log ended.log.items) ended.served.items (is_whole how parts.lost.items lines) (is_some ended.world) ended.failed total ended.accepted ended.verdict isnt is.verdict in
      whole_is how parts.lost.items lines whole.ran

  pub never_apart : (conn : ℕ) → ended.verdict ≢ verdict.Apart conn
  never_apart conn same =
      let told = told_as (verdict.Apart conn) same in
      let run = whole_is how parts.lost.items lines told.0.ran in
      not_apart run.0 run.1 run.2 conn told

  -- and what was to be served was
  pub whole : ended.verdict ≢ verdict.Memory → (is_some ended.world ≡ true) × NoneOutOfMemory ended.served.items × AreWhole (lines_kept log ended.log.items) ended.served.items (links_owed ended.failed ended.accepted total)
  whole isnt = was_whole (lines_kept log ended.log.items) ended.served.items (is_whole how parts.lost.items lines) (is_some ended.world) ended.failed total ended.accepted ended.verdict isnt never_apart is.verdict

  pub histories_are : histories_in x l y shape hall first log ended ≡ map (λ history. history.items) parts.histories.items
  histories_are = ap (λ v. map (λ history. history.items) v.items) is.histories

  pub trail_is : (c : Colour) (history : List Entry) (trail : List Event) → slice_get (map (λ t. t.items) ended.trails.items) c.0 ≡ Some trail → slice_get (histories_in x l y shape hall first log ended) (shard_of setup c) ≡ Some history → trail ≡ ran_of history c
  trail_is c history trail at there =
      let from = from_map (λ (p : PlaceState H W T). p.trail) parts.states.items c.0 trail (ap (λ (l : List (List Event)). slice_get l c.0) (sym is.trails) ∙ at) in
      sym from.2 ∙ kept.trailed c from.0 history from.1 (ap (λ (l : List (List Entry)). slice_get l (shard_of setup c)) (sym histories_are) ∙ there)

  -- where all was run and the world is sound, nothing is due on any connection
  pub is_shut : (empty : how ≡ drained.Empty) (none_lost : parts.lost.items ≡ []) → ended.failed ≡ false → (i : ℕ) → i < total → (place : PlaceState H W T) (seat : Seat T) → slice_get parts.states.items (i + 2) ≡ Some place → place.role ≡ Talking seat → due (y.view_of seat.talk) ≡ None
  is_shut empty none_lost fine i under place seat there talks = ((ends empty none_lost).conn i place seat under there talks).closed (below_all empty none_lost fine i under)

  unfoldable pub has_run : HasRun x l y shape hall first log ended
  has_run = record {
    setup = setup;
    rules = rules;
    colours = colours;
    legal = subst (λ (l : List (List Entry)). AreLegal setup l) (sym histories_are) kept.legal;
    shards = ap length histories_are ∙ kept.shards ∙ ap (λ (r : Rules). r.shape.shards) rules;
    drained = λ isnt shard history at. kept.drained (ran_whole isnt).0 shard history (ap (λ (l : List (List Entry)). slice_get l shard) (sym histories_are) ∙ at);
    trailed = trail_is;
    many_trails = sym (length-map ended.trails.items (λ t. t.items)) ∙ ap length is.trails ∙ length-map parts.states.items (λ (p : PlaceState H W T). p.trail) ∙ kept.many;
    log_begins = log_begins x l y hall first log how parts ended kept.many kept.placed kept.of_world fits is tell;
    log_runs = λ isnt. log_runs x l y hall first log how parts ended kept.many kept.placed kept.of_world fits is tell (ran_whole isnt).2;
    lines_told = lines_told x l y hall first log how parts ended kept.many kept.placed kept.of_world fits is tell;
    unlogged = unlogged x l y hall first log how parts ended kept.many kept.placed kept.of_world fits is tell;
    many_served = served_many x l y hall first log how parts ended kept.many kept.placed kept.of_world fits is tell;
    conn = conn_left x l y hall first log how parts ended kept.many kept.placed kept.of_world fits is tell;
    stands = world_is_ours x l y hall first log how parts ended kept.many kept.placed kept.of_world fits is tell;
    held = λ isnt. (whole isnt).0;
    sound = λ same. (told_as verdict.Ok same).2;
    all_accepted = λ same.
        let told = told_as verdict.Ok same in
        let run = whole_is how parts.lost.items lines told.0.ran in
        accepted_all run.0 run.1 told.2;
    failed = λ same. (told_as verdict.World same).2;
    enough = λ isnt i s there. not_refused s.end ((whole isnt).1 i s there);
    served = λ isnt i s low there. is_served x l y hall first log how parts ended kept.many kept.placed kept.of_world fits is tell i s there ((whole isnt).2 i s (owed_from ended.failed ended.accepted total i (within (ran_whole isnt).0 (ran_whole isnt).1) low) there);
    never_apart = never_apart;
    follows = λ same coming one script i s trail known at answers there run_of.
        let told = told_as verdict.Ok same in
        let run = whole_is how parts.lost.items lines told.0.ran in
        let whole = subst (λ (b : Bool). AreWhole (lines_kept log ended.log.items) ended.served.items (links_owed b ended.accepted total)) told.2 told.3 in
        let many = served_many x l y hall first log how parts ended kept.many kept.placed kept.of_world fits is tell in
        let under : i < total = (let within = slice_get_within ended.served.items i s there in omega (arith, within, many)) in
        conn_follows x l y hall first log how parts ended kept.many kept.placed kept.of_world fits is tell (served_are run.0 run.1) i (λ place seat at talks nothing some. is_shut run.0 run.1 told.2 i under place seat at talks) coming one script s trail known at answers there run_of (whole i s under there) (told.0.enough i s there);
  }
