-- What a conclusion shows of the connections and the world, by what the states keep and
-- what is still under way.
use Rattle.std.proofs.Common.{◌≡◌, ◌≢◌, ℕ, zero, suc, ◌+◌, ◌-◌, ◌≤◌, ◌<◌, ◌⊎◌, Bool, true, false, true≢false, List, [], ◌∷◌, ◌++◌, Option, None, Some, length, map, take, refl, sym, ◌∙◌, ap, subst, arith, inl, inr}
use Rattle.std.proofs.lemmas.Option.{same_Some, slice_get_within}
use Rattle.std.specs.List.{AllByRecursion}
use Rattle.std.specs.Prelude.{slice_get, is_some, is_none, IsSome, IfSome, option_map, ◌||◌, ◌&&◌, not, ◌↔◌, ◌^◌}
use Rattle.mely_event.specs.declared.event.Event.{Event}
use Rattle.mely_event.specs.HandlerTable.{rows_of}
use Rattle.mely_history.specs.Setup.{shape_of, handlers_of, pinned_of}
use Rattle.mely_history.specs.declared.setup.Setup.{Setup}
use Rattle.mely_history.specs.declared.shape.Shape.{Shape}
use Rattle.mely_weave.proofs.Wholes.GatherLemmas.{get_there}
use Rattle.mely_machine.specs.Rules.{rules_of}
use Rattle.mely_weave.specs.declared.draining.Drained.{Drained}
use Rattle.mely_weave.specs.declared.draining.Drained.TheVariants as drained
use Rattle.mely_weave.specs.declared.parts.WeaveParts.{WeaveParts}
use Rattle.sws_link.specs.declared.Link.{Ghosts as LinkWords}
use Rattle.sws_link.specs.declared.world.World.{Ghosts as WorldWords}
use Rattle.sws_steps.specs.declared.Next.{Next}
use Rattle.sws_steps.specs.declared.Next.TheVariants as next
use Rattle.sws_steps.specs.declared.talk.Talk.{Ghosts as TalkWords}
use Rattle.sws_conn.specs.Talks.{TalkView, unopened_view, reported_end, HasServed, due, path_to_come}
use Rattle.sws_conn.specs.Conn.{end_at}
use Rattle.sws_handlers.specs.declared.ended.Served.{Served}
use Rattle.sws_handlers.specs.declared.ended.Ended.{Ended}
use Rattle.sws_handlers.specs.declared.ended.Verdict.{Verdict}
use Rattle.sws_handlers.specs.declared.ended.Verdict.TheVariants as verdict
use Rattle.sws_handlers.specs.declared.load.WorldLoad.{WorldLoad}
use Rattle.sws_handlers.specs.declared.load.Load.{Load}
use Rattle.sws_handlers.specs.KeptLines.{KeptLinesState, AreKept, no_lines}
use Rattle.sws_handlers.specs.Place.{PlaceState}
use Rattle.sws_weave.specs.PartsKept.{IsPlacedAs}
use Rattle.sws_weave.specs.ServerRun.{server_rules, handler_rows}
use Rattle.sws_weave.specs.RunFits.{RunFits}
use Rattle.sws_link.specs.Contents.{IsPrefix}
use Rattle.sws_link.specs.Scripts.{Script}
use Rattle.sws_link.specs.Worlds.{Coming, initial_contents}
use Rattle.sws_weave.specs.ConnFollows.{ConnFollows}
use Rattle.sws_weave.specs.ConnLeft.{LinkLeft, ConnLeft, BeganPath}
use Rattle.sws_handlers.specs.Loads.{WorldStands, LinkStands}
use Rattle.sws_handlers.specs.Served.{SeatServes, ServedBy, OnPath}
use Rattle.sws_steps.specs.declared.Handler.{Handler}
use Rattle.sws_conn.specs.Outcome.{UnlessMemory}
use Rattle.sws_conn.specs.Path.{TakesOff}
use Rattle.sws_handlers.specs.Tasks.{event_for}
use Rattle.sws_handlers.specs.Counting.{colours_over}
use Rattle.sws_log.specs.declared.line.LogLine.{LogLine}
use Rattle.sws_handlers.specs.Loads.{IsComing, IsLineIn}
use Rattle.std.specs.List.{range_with_len}
use Rattle.std.proofs.lemmas.List.{length-map, map-append}
use Rattle.sws_link.specs.Links.{LinkContents, input_of}
use Rattle.sws_log.specs.Lines.{lines_within}
use Rattle.sws_steps.specs.Talks.{LinesServed, LinesOf}
use Rattle.sws_handlers.specs.LogTurns.{lines_for, turns_of, is_numbered}
use Rattle.sws_weave.specs.ServerLeaves.{IsServed}
use Rattle.sws_handlers.proofs.Ends.LogTurnsLemmas.{IsOfLog, numbered_are, lines_are, turns_are}
use Rattle.sws_handlers.specs.Invariant.{LogStands}
use Rattle.sws_handlers.specs.Handling.{conn_of}
use Rattle.sws_handlers.specs.declared.place.Seat.{Seat}
use Rattle.sws_handlers.specs.declared.place.Role.{Role}
use Rattle.sws_handlers.specs.declared.place.Role.TheVariants.{Talking, Logging}
use Rattle.sws_handlers.specs.RunLeaves.{lines_in, lines_kept, is_out_of_turn, is_lost, talkers, resting_in, ShowsSeat, RoleTells, StateTells, is_lacking, is_out_of_memory, IsJudged, VerdictIs}
use Rattle.sws_handlers.specs.Handing.{served_with_loads}
use Rattle.sws_handlers.specs.Conclusion.{is_empty, ran_all, is_whole, accepted_of, failed_of, ways_of, world_found, IsConcluded}
use Rattle.sws_weave.proofs.Ends.InitialServedLemmas.{initial_served}
use Rattle.sws_weave.proofs.Paths.ScriptFollowedLemmas.{followed}
use Rattle.sws_handlers.proofs.Ends.HandingLemmas.{served_length}
use Rattle.sws_weave.proofs.Ends.HandedLemmas.{CarriesStanding, GotLink, ways_stand, world_stands, served_given}
use Rattle.sws_weave.proofs.Ends.SeatsOfRunLemmas.{SeatsStand, seats_stand}

-- a setup of the shape with the server's handlers has the server's rules
pub rules_are : (setup : Setup) (shape : Shape) → shape_of setup ≡ shape → rows_of (handlers_of setup) ≡ handler_rows → pinned_of setup ≡ 1 → rules_of setup ≡ server_rules shape
rules_are setup shape of_shape of_rows of_pinned = λ i. record { shape = of_shape i; rows = of_rows i; pinned = of_pinned i }

-- what stands at a place after a map stood there before
pub from_map : {A B : Type 0} (f : A → B) (xs : List A) (k : ℕ) (b : B) → slice_get (map f xs) k ≡ Some b → (a : A) × (slice_get xs k ≡ Some a) × (f a ≡ b)
from_map f [] k b at = cc
from_map f (x ∷ xs) zero b at = (x, refl, same_Some (f x) b at)
from_map f (x ∷ xs) (suc k) b at = from_map f xs k b at

empty_is : {A : Type 0} (xs : List A) → is_empty xs ≡ true → xs ≡ []
empty_is [] is = refl
empty_is (x ∷ xs) is = cc

not_both : (a b : Bool) → a && not b ≡ true → (a ≡ true) × (b ≡ false)
not_both true false is = (refl, refl)
not_both true true is = cc
not_both false b is = cc

all_ran : {A : Type 0} (how : Drained) (lost : List A) → ran_all how lost ≡ true → (how ≡ drained.Empty) × (lost ≡ [])
all_ran drained.Empty lost is = (refl, empty_is lost is)
all_ran drained.Memory lost is = cc

pub whole_is : {A : Type 0} (how : Drained) (lost : List A) (lines : KeptLinesState) → is_whole how lost lines ≡ true → (how ≡ drained.Empty) × (lost ≡ []) × (lines.lost ≡ false)
whole_is how lost lines is =
    let both = not_both (ran_all how lost) lines.lost is in
    let ran = all_ran how lost both.0 in
    (ran.0, ran.1, both.1)

-- what holds of each in a list holds of each in a front of it
each_front : {A : Type 0} (P : A → Type 0) (xs ys all : List A) → all ≡ xs ++ ys → AllByRecursion P all → AllByRecursion P xs
each_front {A} P xs ys all is told = front_of xs (subst (λ (l : List A). AllByRecursion P l) is told)
  where
    front_of : (xs : List A) → AllByRecursion P (xs ++ ys) → AllByRecursion P xs
    front_of [] told = tt
    front_of (x ∷ xs) told = (told.0, front_of xs told.1)

-- a verdict but want of memory is over a run that was whole
pub judged : {L : Type 0} (kept : Option (List LogLine)) (served : List (Served L)) (whole there failed : Bool) (total accepted : ℕ) (told : Verdict) → told ≢ verdict.Memory → VerdictIs kept served whole total there accepted failed told → IsJudged served whole
judged kept served whole there failed total accepted verdict.Ok isnt is = is.0
judged kept served whole there failed total accepted verdict.World isnt is = is.0
judged kept served whole there failed total accepted (verdict.Apart conn) isnt is = is.0
judged kept served whole there failed total accepted verdict.Memory isnt is = absurd (isnt refl)

not_false : (b : Bool) → not b ≡ false → b ≡ true
not_false true is = refl
not_false false is = absurd (true≢false is)

no_lack : (a b : Bool) → a || b ≡ false → a ≡ false
no_lack false b is = refl
no_lack true b is = is

no_turn : (a b : Bool) → a || b ≡ false → b ≡ false
no_turn false b is = is
no_turn true b is = absurd (true≢false is)

pub all_at : {A : Type 0} (P : A → Type 0) (xs : List A) (i : ℕ) (a : A) → AllByRecursion P xs → slice_get xs i ≡ Some a → P a
all_at P [] i a all at = cc
all_at P (x ∷ xs) zero a all at = subst P (same_Some x a at) all.0
all_at P (x ∷ xs) (suc i) a all at = all_at P xs i a all.1 at

-- the world that was found is the one that is handed out
ours : {W L : Type 0} (x : WorldWords W L) (l : LinkWords L) (first : W) (found : Option (WorldLoad W)) → IfSome found (WorldStands x l first) → (world : W) (accepted : ℕ) (failed : Bool) → option_map (λ held. held.world) found ≡ Some world → accepted ≡ accepted_of found → failed ≡ failed_of found → WorldStands x l first (record { world = world; accepted = accepted; failed = failed })
ours x l first None stands world accepted failed there accepted_is failed_is = cc
ours {W} x l first (Some held) stands world accepted failed there accepted_is failed_is =
    let same : held ≡ record { world = world; accepted = accepted; failed = failed } = (λ i. record { world = same_Some held.world world there i; accepted = sym accepted_is i; failed = sym failed_is i }) in
    subst (λ (h : WorldLoad W). WorldStands x l first h) same stands

link_left : {W L T G H : Type 0} (x : WorldWords W L) (l : LinkWords L) (y : TalkWords T L G H) (hall : H) (first : W) (i : ℕ) (place : PlaceState H W T) (seat : Seat T) → conn_of place.colour ≡ i → place.hall ≡ hall → place.first ≡ first → (o : Option L) → ServedBy x l y place seat o → LinkLeft x l y hall first i o (y.view_of seat.talk)
link_left x l y hall first i place seat conn_is of_hall of_first None served = served
link_left {W} {L} {T} {G} {H} x l y hall first i place seat conn_is of_hall of_first (Some now) served = (
  served.0,
  subst (λ (w : W). LinkStands x l w i served.0) of_first (subst (λ (n : ℕ). LinkStands x l place.first n served.0) conn_is served.1),
  subst (λ (h : H). HasServed l (y.responses h) (y.outcome h) served.0 now (y.view_of seat.talk)) of_hall served.2,
  inr (subst (λ (h : H). LinesServed (y.log h i) (l.tells served.0) (y.view_of seat.talk)) of_hall
      (subst (λ (n : ℕ). LinesServed (y.log place.hall n) (l.tells served.0) (y.view_of seat.talk)) conn_is served.3)),
)

-- what is left of a connection, by the state of its colour, with its talk, from which all of it is told
pub record ConnKept {W L T G H : Type 0} (x : WorldWords W L) (l : LinkWords L) (y : TalkWords T L G H) (hall : H) (first : W) (i : ℕ) (trail : List Event) (s : Served L) : Type 0 where
  pub place : PlaceState H W T
  pub seat : Seat T
  pub colour : place.colour.0 ≡ i + 2
  pub over : (place.hall ≡ hall) × (place.first ≡ first) × (place.trail ≡ trail)
  pub link : LinkLeft x l y hall first i s.link (y.view_of seat.talk)
  pub end : s.end ≡ reported_end (y.view_of seat.talk)
  pub closed : IsSome s.end ↔ ((y.view_of seat.talk).pending ≡ next.Nothing)
  pub read : s.read ≡ (y.view_of seat.talk).read
  pub few_read : s.read ≤ y.input_limit hall
  pub written : s.written ≡ (y.view_of seat.talk).written
  pub few_written : s.written ≤ y.output_limit hall
  pub answered : s.answered ≡ (y.view_of seat.talk).lines
  pub stray : s.stray ≡ seat.stray
  pub serves : SeatServes x l y place seat

-- the steps that a seat ran come first on the path of its link
began_of : {W L T G H : Type 0} (x : WorldWords W L) (l : LinkWords L) (y : TalkWords T L G H) (hall : H) (first : W) (i : ℕ) (place : PlaceState H W T) (seat : Seat T) → conn_of place.colour ≡ i → place.hall ≡ hall → place.first ≡ first
    → (ran : List Handler) → OnPath x l y place seat ran → BeganPath x l y hall first i ran (y.view_of seat.talk)
began_of x l y hall first i place seat conn_is of_hall of_first [] is = is
began_of {W} {L} {T} {G} {H} x l y hall first i place seat conn_is of_hall of_first (step ∷ steps) (begun, stands, takes, is_due) = (
  begun,
  y.rest_of seat.talk,
  subst (λ (w : W). LinkStands x l w i begun) of_first (subst (λ (n : ℕ). LinkStands x l place.first n begun) conn_is stands),
  subst (λ (h : H). UnlessMemory (y.view_of seat.talk).end (TakesOff (step ∷ steps) (path_to_come (y.path h) (l.tells begun)) (y.rest_of seat.talk))) of_hall takes,
  is_due,
)

-- what is left of a connection, of its state
left_of : {W L T G H : Type 0} (x : WorldWords W L) (l : LinkWords L) (y : TalkWords T L G H) (hall : H) (first : W) (i : ℕ) (trail : List Event) (place : PlaceState H W T) (seat : Seat T) (before after : Served L) → ShowsSeat y seat before → place.colour.0 ≡ i + 2 → place.hall ≡ hall → place.first ≡ first → place.trail ≡ trail → SeatServes x l y place seat
    → (after ≡ before) ⊎ GotLink x l first i before after → ConnKept x l y hall first i trail after
left_of {W} {L} {T} {G} {H} x l y hall first i trail place seat before after shows colour of_hall of_first of_trail serves given =
    let conn_is : conn_of place.colour ≡ i = omega (arith, colour) in
    let hall_is : y.hall_of seat.talk ≡ hall = serves.hall_is ∙ of_hall in
    let view : TalkView = y.view_of seat.talk in
    let link_by : (o : Option L) → y.link_of seat.talk ≡ o → LinkLeft x l y hall first i o view = λ o is. link_left x l y hall first i place seat conn_is of_hall of_first o (subst (λ (k : Option L). ServedBy x l y place seat k) is serves.served) in
    elim given [
      | inl same ↦ subst (λ (s : Served L). ConnKept x l y hall first i trail s) (sym same) (record {
        place = place;
        seat = seat;
        colour = colour;
        over = (of_hall, of_first, of_trail);
        link = link_by before.link (sym shows.link);
        end = shows.end;
        closed = shows.closed;
        read = shows.read;
        few_read = subst (λ (h : H). before.read ≤ y.input_limit h) hall_is shows.few_read;
        written = shows.written;
        few_written = subst (λ (h : H). before.written ≤ y.output_limit h) hall_is shows.few_written;
        answered = shows.answered ∙ serves.answered;
        stray = shows.stray;
        serves = serves;
      })
      | inr got ↦ subst (λ (s : Served L). ConnKept x l y hall first i trail s) (sym got.becomes) (record {
        place = place;
        seat = seat;
        colour = colour;
        over = (of_hall, of_first, of_trail);
        link =
            let unopened = link_by None (sym shows.link ∙ got.none) in (
              got.link,
              got.initial,
              subst (λ (v : TalkView). HasServed l (y.responses hall) (y.outcome hall) got.link got.link v) (sym unopened) (initial_served x l first i got.link (y.responses hall) (y.outcome hall) got.initial),
              inl unopened,
            );
        end = shows.end;
        closed = shows.closed;
        read = shows.read;
        few_read = subst (λ (h : H). before.read ≤ y.input_limit h) hall_is shows.few_read;
        written = shows.written;
        few_written = subst (λ (h : H). before.written ≤ y.output_limit h) hall_is shows.few_written;
        answered = shows.answered ∙ serves.answered;
        stray = shows.stray;
        serves = serves;
      })
    ]

-- what lacks nothing has an end, and met no stray event
has_end : {A : Type 0} (a : Bool) (o : Option A) (c : Bool) → (a || is_none o) || c ≡ false → IsSome o
has_end a (Some e) c whole = refl
has_end true None c whole = cc
has_end false None c whole = cc

has_link : {A : Type 0} (o : Option A) (b c : Bool) → (is_none o || b) || c ≡ false → IsSome o
has_link (Some link) b c whole = refl
has_link None b c whole = cc

no_more : {A : Type 0} (a : Bool) (o : Option A) → a || is_some o ≡ false → o ≡ None
no_more a None whole = refl
no_more true (Some e) whole = cc
no_more false (Some e) whole = cc

not_ended : {A : Type 0} (o : Option A) → IsSome o → o ≡ None → ⊥
not_ended o some none = let both : true ≡ false = sym some ∙ ap is_some none in true≢false both

module _ {W L T G H : Type 0} (x : WorldWords W L) (l : LinkWords L) (y : TalkWords T L G H) (hall : H) (first : W) (log : Bool) (how : Drained) (parts : WeaveParts (PlaceState H W T) (Load W L)) (ended : Ended W L)
    (many : length parts.states.items ≡ colours_over (x.tells first).total log)
    (placed : (i : ℕ) (place : PlaceState H W T) → slice_get parts.states.items i ≡ Some place → IsPlacedAs (x.tells first).total i place)
    (of_world : (i : ℕ) (place : PlaceState H W T) → slice_get parts.states.items i ≡ Some place → place.first ≡ first)
    (fits : RunFits x l first hall parts.states.items (map (λ events. events.items) parts.queued.items) parts.lost.items)
    (is : IsConcluded y (x.tells first).total log how parts ended)
    (tell : AllByRecursion (StateTells x l y) parts.states.items) where
  abbrev total : ℕ
  total = (x.tells first).total

  seats : SeatsStand total parts.states.items
  seats = seats_stand total log parts.states.items many placed

  pub served_many : length ended.served.items ≡ total
  served_many = ap length is.served ∙ served_length (ways_of y total log how parts ended) is.found ∙ is.shows.many ∙ seats.many

  -- the state of a connection, and what its type keeps
  told_of : (i : ℕ) (place : PlaceState H W T) → slice_get parts.states.items i ≡ Some place → StateTells x l y place
  told_of i place at = all_at (StateTells x l y) parts.states.items i place tell at

  ways_all : AllByRecursion (λ (e : Event × Option (Load W L)). CarriesStanding x l first e.0.arg e.1) (ways_of y total log how parts ended)
  ways_all = ways_stand x l first hall parts.states.items (map (λ events. events.items) parts.queued.items) parts.lost.items fits

  conn_kept : (i : ℕ) (s : Served L) (trail : List Event) → slice_get ended.served.items i ≡ Some s → slice_get (map (λ t. t.items) ended.trails.items) (i + 2) ≡ Some trail → ConnKept x l y hall first i trail s
  conn_kept i s trail at there =
      let handed = served_given x l first i (ways_of y total log how parts ended) is.found s ways_all (ap (λ (all : List (Served L)). slice_get all i) (sym is.served) ∙ at) in
      let within = slice_get_within is.found i handed.before handed.there in
      let shown = is.shows.many in
      let talker = get_there (talkers parts.states.items) i (omega (arith, within, shown)) in
      let from = seats.each i talker.0 talker.1 in
      let shows = is.shows.each i talker.0 handed.before talker.1 handed.there in
      let stands = placed (i + 2) talker.0.place from.there in
      let serves : SeatServes x l y talker.0.place talker.0.seat = subst (λ (r : Role W T). RoleTells x l y talker.0.place r) from.talks (told_of (i + 2) talker.0.place from.there) in
      let trail_same : talker.0.place.trail ≡ trail = (let back = from_map (λ (p : PlaceState H W T). p.trail) parts.states.items (i + 2) trail (ap (λ (all : List (List Event)). slice_get all (i + 2)) (sym is.trails) ∙ there) in
      let same : back.0 ≡ talker.0.place = same_Some back.0 talker.0.place (sym back.1 ∙ from.there) in ap (λ (p : PlaceState H W T). p.trail) (sym same) ∙ back.2) in
      left_of x l y hall first i trail talker.0.place talker.0.seat handed.before s shows stands.colour (fits.of_hall (i + 2) talker.0.place from.there) (of_world (i + 2) talker.0.place from.there) trail_same serves handed.given

  -- and of this what is left by its view alone
  pub conn_left : (i : ℕ) (s : Served L) (trail : List Event) → slice_get ended.served.items i ≡ Some s → slice_get (map (λ t. t.items) ended.trails.items) (i + 2) ≡ Some trail → ConnLeft x l y hall first i trail s
  conn_left i s trail at there =
      let kept = conn_kept i s trail at there in
      let colour = kept.colour in
      let conn_is : conn_of kept.place.colour ≡ i = omega (arith, colour) in
      record {
        view = y.view_of kept.seat.talk;
        link = kept.link;
        end = kept.end;
        closed = kept.closed;
        read = kept.read;
        few_read = kept.few_read;
        written = kept.written;
        few_written = kept.few_written;
        answered = kept.answered;
        trailed = λ none.
            let ran = kept.serves.trailed (sym kept.stray ∙ none) in (
              ran.0,
              sym kept.over.2 ∙ ran.1 ∙ ap (λ (n : ℕ). map (event_for n) ran.0) conn_is,
              began_of x l y hall first i kept.place kept.seat conn_is kept.over.0 kept.over.1 ran.0 ran.2,
            );
      }

  -- a connection over a script followed it, where nothing is due on it once it has its end
  pub conn_follows : ended.served.items ≡ is.found → (i : ℕ) → ((place : PlaceState H W T) (seat : Seat T) → slice_get parts.states.items (i + 2) ≡ Some place → place.role ≡ Talking seat → (y.view_of seat.talk).pending ≡ next.Nothing → IsSome (y.view_of seat.talk).end → due (y.view_of seat.talk) ≡ None)
      → (coming : List Coming) (one : Coming) (script : Script) (s : Served L) (trail : List Event) → (x.tells first).coming ≡ Some coming → slice_get coming i ≡ Some one → one.answers ≡ Some script
      → slice_get ended.served.items i ≡ Some s → slice_get (map (λ t. t.items) ended.trails.items) (i + 2) ≡ Some trail → is_lost (lines_kept log ended.log.items) i s ≡ false → is_out_of_memory s.end ≡ false → ConnFollows l y hall i script trail s
  conn_follows served_are i closed_by coming one script s trail known at answers there run_of not_lost enough =
      let whole = no_lack (is_lacking s) (is_out_of_turn (lines_kept log ended.log.items) i s) not_lost in
      let here : slice_get is.found i ≡ Some s = ap (λ (all : List (Served L)). slice_get all i) (sym served_are) ∙ there in
      let within = slice_get_within is.found i s here in
      let shown = is.shows.many in
      let talker = get_there (talkers parts.states.items) i (omega (arith, within, shown)) in
      let from = seats.each i talker.0 talker.1 in
      let shows = is.shows.each i talker.0 s talker.1 here in
      let colour = (placed (i + 2) talker.0.place from.there).colour in
      let shut : IsSome s.end = has_end (is_none s.link) s.end (is_some s.stray) whole in
      let nothing : (y.view_of talker.0.seat.talk).pending ≡ next.Nothing = shows.closed.0 shut in
      let end_is : s.end ≡ (y.view_of talker.0.seat.talk).end = shows.end ∙ ap (λ (n : Next). end_at n (y.view_of talker.0.seat.talk).end) nothing in
      let unstrayed : talker.0.seat.stray ≡ None = sym shows.stray ∙ no_more (is_none s.link || is_none s.end) s.stray whole in
      let closed : due (y.view_of talker.0.seat.talk) ≡ None = closed_by talker.0.place talker.0.seat from.there from.talks nothing (ap is_some (sym end_is) ∙ shut) in
      let serves : SeatServes x l y talker.0.place talker.0.seat = subst (λ (r : Role W T). RoleTells x l y talker.0.place r) from.talks (told_of (i + 2) talker.0.place from.there) in
      let of_first : talker.0.place.first ≡ first = of_world (i + 2) talker.0.place from.there in
      let of_hall : talker.0.place.hall ≡ hall = fits.of_hall (i + 2) talker.0.place from.there in
      let trail_same : talker.0.place.trail ≡ trail = (let back = from_map (λ (p : PlaceState H W T). p.trail) parts.states.items (i + 2) trail (ap (λ (all : List (List Event)). slice_get all (i + 2)) (sym is.trails) ∙ run_of) in
      let same : back.0 ≡ talker.0.place = same_Some back.0 talker.0.place (sym back.1 ∙ from.there) in ap (λ (p : PlaceState H W T). p.trail) (sym same) ∙ back.2) in
      let conn_is : conn_of talker.0.place.colour ≡ i = omega (arith, colour) in
      let all = followed x l y i talker.0.place talker.0.seat s serves shows conn_is closed nothing unstrayed enough coming one script (ap (λ (w : W). (x.tells w).coming) of_first ∙ known) at answers (not_ended s.end shut) in
      subst (λ (h : H). ConnFollows l y h i script trail s) of_hall (subst (λ (t : List Event). ConnFollows l y talker.0.place.hall i script t s) trail_same all)

  desk_stands : IfSome seats.desk.resting (WorldStands x l first)
  desk_stands = subst (λ (w : W). IfSome seats.desk.resting (WorldStands x l w)) (of_world 0 seats.place seats.first) (subst (λ (r : Role W T). RoleTells x l y seats.place r) seats.polls (told_of 0 seats.place seats.first))

  found_stands : IfSome (world_found y total log how parts ended) (WorldStands x l first)
  found_stands = world_stands x l first (ways_of y total log how parts ended) (resting_in None parts.states.items) ways_all (subst (λ (o : Option (WorldLoad W)). IfSome o (WorldStands x l first)) (sym seats.resting) desk_stands)

  pub world_is_ours : (world : W) → ended.world ≡ Some world → WorldStands x l first (record { world = world; accepted = ended.accepted; failed = ended.failed })
  world_is_ours world there = ours x l first (world_found y total log how parts ended) found_stands world ended.accepted ended.failed (sym is.world ∙ there) is.accepted is.failed

  -- the lines that the states leave
  abbrev pub found : KeptLinesState
  found = lines_in no_lines parts.states.items

  -- the state that keeps the log, where there is one
  pub log_stands : (last : PlaceState H W T) → slice_get parts.states.items (total + 2) ≡ Some last → LogStands x l y hall first last.trail found.came × AreKept found
  log_stands last there =
      let own : last.role ≡ Logging = (placed (total + 2) last there).logs refl in
      let stands : LogStands x l y last.hall last.first last.trail last.lines.came × AreKept last.lines = subst (λ (r : Role W T). RoleTells x l y last r) own (told_of (total + 2) last there) in
      let here : LogStands x l y hall first last.trail last.lines.came = subst (λ (w : W). LogStands x l y hall w last.trail last.lines.came) (of_world (total + 2) last there) (subst (λ (h : H). LogStands x l y h last.first last.trail last.lines.came) (fits.of_hall (total + 2) last there) stands.0) in
      subst (λ (ls : KeptLinesState). LogStands x l y hall first last.trail ls.came × AreKept ls) (sym (seats.logged last there)) (here, stands.1)

  -- the trail of the log's colour is that of its state
  log_named : (trail : List Event) → slice_get (map (λ t. t.items) ended.trails.items) (total + 2) ≡ Some trail → (map (λ (line : LogLine). line.conn) found.came ≡ map (λ (event : Event). event.arg) trail) × AreKept found
  log_named trail at =
      let back = from_map (λ (p : PlaceState H W T). p.trail) parts.states.items (total + 2) trail (ap (λ (all : List (List Event)). slice_get all (total + 2)) (sym is.trails) ∙ at) in
      let stands = log_stands back.0 back.1 in
      (stands.0.named ∙ ap (λ (es : List Event). map (λ (event : Event). event.arg) es) back.2, stands.1)

  pub log_begins : (trail : List Event) → slice_get (map (λ t. t.items) ended.trails.items) (total + 2) ≡ Some trail → IsPrefix (map (λ (line : LogLine). line.conn) ended.log.items) (map (λ (event : Event). event.arg) trail)
  log_begins trail at =
      let named = log_named trail at in
      let behind = named.1.front in
      let split = ap (λ (ls : List LogLine). map (λ (line : LogLine). line.conn) ls) behind.1 ∙ map-append (λ (line : LogLine). line.conn) found.kept behind.0 in (
        map (λ (line : LogLine). line.conn) behind.0,
        sym named.0 ∙ split ∙ ap (λ (ls : List LogLine). map (λ (line : LogLine). line.conn) ls ++ map (λ (line : LogLine). line.conn) behind.0) (sym is.kept),
      )

  -- where none was lost
  pub log_runs : found.lost ≡ false → (trail : List Event) → slice_get (map (λ t. t.items) ended.trails.items) (total + 2) ≡ Some trail → map (λ (line : LogLine). line.conn) ended.log.items ≡ map (λ (event : Event). event.arg) trail
  log_runs none trail at =
      let named = log_named trail at in
      ap (λ (ls : List LogLine). map (λ (line : LogLine). line.conn) ls) (is.kept ∙ named.1.all none) ∙ named.0

  pub unlogged : log ≡ false → ended.log.items ≡ []
  unlogged none = is.kept ∙ ap (λ (ls : KeptLinesState). ls.kept) (seats.unlogged (many ∙ ap (λ (b : Bool). colours_over total b) none ∙ omega arith))

  lines_told_by : (b : Bool) → log ≡ b → AllByRecursion (λ (line : LogLine). (line.conn < total) × IsLineIn (y.log hall) (x.tells first).coming line) ended.log.items
  lines_told_by false none = subst (λ (ls : List LogLine). AllByRecursion (λ (line : LogLine). (line.conn < total) × IsLineIn (y.log hall) (x.tells first).coming line) ls) (sym (unlogged none)) tt
  lines_told_by true on =
      let long : length parts.states.items ≡ total + 2 + 1 = many ∙ ap (λ (b : Bool). colours_over total b) on in
      let last = get_there parts.states.items (total + 2) (omega (arith, long)) in
      let stands = log_stands last.0 last.1 in
      let behind = stands.1.front in
      subst (λ (ls : List LogLine). AllByRecursion (λ (line : LogLine). (line.conn < total) × IsLineIn (y.log hall) (x.tells first).coming line) ls) (sym is.kept)
      (each_front (λ (line : LogLine). (line.conn < total) × IsLineIn (y.log hall) (x.tells first).coming line) found.kept behind.0 found.came behind.1 stands.0.told)

  pub lines_told : AllByRecursion (λ (line : LogLine). (line.conn < total) × IsLineIn (y.log hall) (x.tells first).coming line) ended.log.items
  lines_told = lines_told_by log refl

  -- ---- the lines of a connection

  -- where its lines are in turn they are the first ones of its log
  in_turn : (n : ℕ) (i : ℕ) (s : Served L) → log ≡ true → is_out_of_turn (lines_kept log ended.log.items) i s ≡ false → turns_of i ended.log.items ≡ range_with_len 1 s.answered
  in_turn n i s on turn =
      let out : is_out_of_turn (Some ended.log.items) i s ≡ false = sym (ap (λ (b : Bool). is_out_of_turn (lines_kept b ended.log.items) i s) on) ∙ turn in
      numbered_are s.answered (turns_of i ended.log.items) (not_false (is_numbered s.answered (turns_of i ended.log.items)) out)

  each_of_log : (coming : List Coming) (one : Coming) (i : ℕ) → (x.tells first).coming ≡ Some coming → slice_get coming i ≡ Some one → (lines : List LogLine) → AllByRecursion (λ (line : LogLine). (line.conn < total) × IsLineIn (y.log hall) (x.tells first).coming line) lines → AllByRecursion (IsOfLog i (y.log hall i (input_of (initial_contents one)))) lines
  each_of_log coming one i known at [] told = tt
  each_of_log coming one i known at (line ∷ lines) told = (
    λ own.
        let here : IsLineIn (y.log hall) (Some coming) line = subst (λ (o : Option (List Coming)). IsLineIn (y.log hall) o line) known told.0.1 in
        let exact = here one (ap (slice_get coming) own ∙ at) in
        subst (λ (k : ℕ). (1 ≤ line.turn) × (slice_get (y.log hall k (input_of (initial_contents one))) (line.turn - 1) ≡ Some line)) own exact,
    each_of_log coming one i known at lines told.1,
  )

  -- what a connection that was served to its end has given
  ended_lines : (i : ℕ) (s : Served L) (trail : List Event) (left : ConnKept x l y hall first i trail s) → IsSome s.end → (coming : List Coming) (one : Coming) → (x.tells first).coming ≡ Some coming → slice_get coming i ≡ Some one → (o : Option L) → y.link_of left.seat.talk ≡ o → LinesOf (y.log hall i (input_of (initial_contents one))) (y.view_of left.seat.talk)
  ended_lines i s trail left end coming one known at None none =
      let initial : y.view_of left.seat.talk ≡ unopened_view = subst (λ (o : Option L). ServedBy x l y left.place left.seat o) none left.serves.served in
      let shut = left.closed.0 end in
      let both : next.Nothing ≡ next.Open = sym shut ∙ ap (λ (v : TalkView). v.pending) initial in
      cc
  ended_lines i s trail left end coming one known at (Some now) there =
      let served = subst (λ (o : Option L). ServedBy x l y left.place left.seat o) there left.serves.served in
      let colour = left.colour in
      let conn_is : conn_of left.place.colour ≡ i = omega (arith, colour) in
      let stands = subst (λ (w : W). LinkStands x l w i served.0) left.over.1 (subst (λ (n : ℕ). LinkStands x l left.place.first n served.0) conn_is served.1) in
      let comes : IsComing (Some coming) i (l.tells served.0) = subst (λ (o : Option (List Coming)). IsComing o i (l.tells served.0)) known stands.coming in
      let same : comes.0 ≡ one = same_Some comes.0 one (sym comes.1 ∙ at) in
      let tells : l.tells served.0 ≡ Some (initial_contents one) = comes.2 ∙ ap (λ (c : Coming). Some (initial_contents c)) same in
      let lines = subst (λ (h : H). LinesServed (y.log h i) (l.tells served.0) (y.view_of left.seat.talk)) left.over.0 (subst (λ (n : ℕ). LinesServed (y.log left.place.hall n) (l.tells served.0) (y.view_of left.seat.talk)) conn_is served.3) in
      subst (λ (o : Option LinkContents). LinesServed (y.log hall i) o (y.view_of left.seat.talk)) tells lines

  pub lines_of : log ≡ true → (coming : List Coming) (one : Coming) (i : ℕ) (s : Served L) → (x.tells first).coming ≡ Some coming → slice_get coming i ≡ Some one → slice_get ended.served.items i ≡ Some s → is_lost (lines_kept log ended.log.items) i s ≡ false
      → lines_for i ended.log.items ≡ lines_within s.written (y.log hall i (input_of (initial_contents one)))
  lines_of on coming one i s known at there whole =
      let within = slice_get_within ended.served.items i s there in
      let count : length (map (λ t. t.items) ended.trails.items) ≡ colours_over total log = ap length is.trails ∙ length-map parts.states.items (λ (p : PlaceState H W T). p.trail) ∙ many in
      let trail = get_there (map (λ t. t.items) ended.trails.items) (i + 2) (omega (arith, within, served_many, count)) in
      let left = conn_kept i s trail.0 there trail.1 in
      let end : IsSome s.end = has_end (is_none s.link) s.end (is_some s.stray) (no_lack (is_lacking s) (is_out_of_turn (lines_kept log ended.log.items) i s) whole) in
      let given = ended_lines i s trail.0 left end coming one known at (y.link_of left.seat.talk) refl in
      let turns = in_turn s.answered i s on (no_turn (is_lacking s) (is_out_of_turn (lines_kept log ended.log.items) i s) whole) in
      lines_are i (y.log hall i (input_of (initial_contents one))) ended.log.items s.answered (each_of_log coming one i known at ended.log.items lines_told) turns
      ∙ ap (λ (n : ℕ). take n (y.log hall i (input_of (initial_contents one)))) left.answered
      ∙ given.lines
      ∙ ap (λ (n : ℕ). lines_within n (y.log hall i (input_of (initial_contents one)))) (sym left.written)

  -- a connection that isn't lost was served
  pub is_served : (i : ℕ) (s : Served L) → slice_get ended.served.items i ≡ Some s → is_lost (lines_kept log ended.log.items) i s ≡ false → IsServed x l y hall first ended log i s
  is_served i s there whole =
      let lacks = no_lack (is_lacking s) (is_out_of_turn (lines_kept log ended.log.items) i s) whole in
      let turns = no_turn (is_lacking s) (is_out_of_turn (lines_kept log ended.log.items) i s) whole in
      record {
        has_link = has_link s.link (is_none s.end) (is_some s.stray) lacks;
        has_end = has_end (is_none s.link) s.end (is_some s.stray) lacks;
        no_stray = no_more (is_none s.link || is_none s.end) s.stray lacks;
        in_turn = λ on. turns_are i ended.log.items ∙ in_turn s.answered i s on turns;
        lines = λ on coming one known at. lines_of on coming one i s known at there whole;
      }
