-- At Ok no link met want of memory, so the histories that a run leaves are those of the definition.
use Rattle.std.proofs.Common.{◌≡◌, ◌+◌, ◌<◌, ℕ, zero, suc, All, Bool, false, List, [], ◌++◌, Option, None, Some, get_or, map, arith, refl, sym, ap, subst, ◌∙◌, inl, inr}
use Rattle.std.specs.Prelude.{slice_get, is_none, is_some, IsSome, ◌||◌}
use Rattle.std.proofs.lemmas.Bool.{or_parts}
use Rattle.std.proofs.lemmas.Option.{same_Some, slice_get_within, slice_get-get_or}
use Rattle.mely_event.specs.declared.event.Event.{Event}
use Rattle.mely_event.specs.HandlerTable.{rows_of}
use Rattle.mely_history.specs.declared.setup.Setup.{Setup}
use Rattle.mely_history.specs.declared.shape.Shape.{Shape}
use Rattle.mely_history.specs.declared.entry.Entry.{Entry}
use Rattle.mely_history.specs.Setup.{shape_of, handlers_of, pinned_of}
use Rattle.mely_weave.specs.declared.draining.Drained.{Drained}
use Rattle.mely_weave.specs.declared.draining.Drained.TheVariants as drained
use Rattle.mely_weave.specs.declared.parts.WeaveParts.{WeaveParts}
use Rattle.mely_tally.specs.Tallies.{carried_by}
use Rattle.mely_run.proofs.Lists.ElementsLemmas.{there_of}
use Rattle.sws_link.specs.declared.Link.{Ghosts as LinkWords}
use Rattle.sws_link.specs.declared.world.World.{Ghosts as WorldWords}
use Rattle.sws_steps.specs.declared.End.{End}
use Rattle.sws_steps.specs.declared.End.TheVariants as ending
use Rattle.sws_steps.specs.declared.Next.{Next}
use Rattle.sws_steps.specs.declared.Next.TheVariants as next
use Rattle.sws_steps.specs.declared.talk.Talk.{Ghosts as TalkWords}
use Rattle.sws_conn.specs.Conn.{end_at}
use Rattle.sws_steps.specs.Logs.{Step}
use Rattle.sws_handlers.specs.declared.ended.Served.{Served}
use Rattle.sws_handlers.specs.declared.ended.Ended.{Ended}
use Rattle.sws_handlers.specs.declared.ended.Verdict.{Verdict}
use Rattle.sws_handlers.specs.declared.ended.Verdict.TheVariants as verdict
use Rattle.sws_handlers.specs.declared.load.Load.{Load}
use Rattle.sws_handlers.specs.declared.place.Seat.{Seat}
use Rattle.sws_handlers.specs.declared.place.Role.{Role}
use Rattle.sws_handlers.specs.declared.place.Role.TheVariants.{Polling, Accepting, Talking, Logging}
use Rattle.sws_handlers.specs.KeptLines.{no_lines}
use Rattle.sws_handlers.specs.Place.{PlaceState}
use Rattle.sws_weave.specs.RunParts.{RunParts}
use Rattle.sws_handlers.specs.RunLeaves.{lines_in, Talker, talkers, is_out_of_memory, links_owed, AreWhole, VerdictIs, lines_kept, is_lacking, is_out_of_turn}
use Rattle.sws_handlers.specs.Handing.{served_with_loads}
use Rattle.sws_handlers.specs.Conclusion.{is_whole, IsConcluded}
use Rattle.sws_handlers.specs.PathStates.{TellsPaths, is_memory, is_spoilt_role, is_spoilt}
use Rattle.sws_weave.specs.Openings.{AreOpened}
use Rattle.sws_weave.specs.ServerRun.{handler_rows, IsRunOfPaths}
use Rattle.sws_weave.specs.ServedRun.{IsOfPaths}
use Rattle.sws_weave.proofs.Ends.ConcludedLemmas.{whole_is}
use Rattle.sws_weave.proofs.Ends.SeatsOfRunLemmas.{SeatsStand, seats_stand, below_bit}
use Rattle.std.proofs.lemmas.Bool.{cases_lt}

has_end : (o : Option End) → is_none o ≡ false → IsSome o
has_end None is = cc
has_end (Some end) is = refl

not_memory : (o : Option End) → is_out_of_memory o ≡ false → is_memory o ≡ false
not_memory None is = refl
not_memory (Some ending.Done) is = refl
not_memory (Some ending.Idle) is = refl
not_memory (Some ending.Fault) is = refl
not_memory (Some ending.Memory) is = cc

module _ {W L T G H : Type 0} (x : WorldWords W L) (l : LinkWords L) (y : TalkWords T L G H) (setup : Setup) (first : W) (log : Bool) (how : Drained) (parts : WeaveParts (PlaceState H W T) (Load W L)) (ended : Ended W L)
    (ran : RunParts x y setup first log how (map (λ history. history.items) parts.histories.items) parts.states.items (map (λ events. events.items) parts.queued.items) parts.lost.items)
    (is : IsConcluded y (x.tells first).total log how parts ended) (ok : ended.verdict ≡ verdict.Ok) where
  abbrev total : ℕ
  total = (x.tells first).total

  told : VerdictIs (lines_kept log ended.log.items) ended.served.items (is_whole how parts.lost.items (lines_in no_lines parts.states.items)) total (is_some ended.world) ended.accepted ended.failed verdict.Ok
  told = subst (λ (v : Verdict). VerdictIs (lines_kept log ended.log.items) ended.served.items (is_whole how parts.lost.items (lines_in no_lines parts.states.items)) total (is_some ended.world) ended.accepted ended.failed v) ok is.verdict

  whole : (how ≡ drained.Empty) × (parts.lost.items ≡ []) × ((lines_in no_lines parts.states.items).lost ≡ false)
  whole = whole_is how parts.lost.items (lines_in no_lines parts.states.items) (told.0.ran)

  -- what is shown is what was found of the states
  served_are : ended.served.items ≡ is.found
  served_are =
      is.served
      ∙ ap (λ (w : List (Event × Option (Load W L))). served_with_loads w is.found)
      (ap (λ (w : List (Event × Option (Load W L))). w ++ carried_by parts.lost.items) (ran.emptied whole.0) ∙ ap (λ l. carried_by l) whole.1)

  seats : SeatsStand total parts.states.items
  seats = seats_stand total log parts.states.items ran.many ran.placed

  all_whole : AreWhole (lines_kept log ended.log.items) ended.served.items total
  all_whole = subst (λ (failed : Bool). AreWhole (lines_kept log ended.log.items) ended.served.items (links_owed failed ended.accepted total)) told.2 told.3

  -- the end of a talk of these
  module _ (i : ℕ) (under : i < total) (place : PlaceState H W T) (seat : Seat T) (there : slice_get parts.states.items (i + 2) ≡ Some place) (talks : place.role ≡ Talking seat) where
    talker : (t : Talker H W T) × (slice_get (talkers parts.states.items) i ≡ Some t)
    talker = let many = seats.many in there_of (talkers parts.states.items) i (omega (arith, under, many))

    shown : (s : Served L) × (slice_get is.found i ≡ Some s)
    shown = let many = is.shows.many in let seats_many = seats.many in there_of is.found i (omega (arith, under, many, seats_many))

    seat_is : talker.0.seat ≡ seat
    seat_is =
        let from = seats.each i talker.0 talker.1 in
        let one : talker.0.place ≡ place = same_Some talker.0.place place (sym from.there ∙ there) in
        let both : Talking talker.0.seat ≡ Talking seat = sym from.talks ∙ ap (λ (p : PlaceState H W T). p.role) one ∙ talks in
        cc

    seat_sound : is_memory (y.view_of seat.talk).end ≡ false
    seat_sound =
        let shows = is.shows.each i talker.0 shown.0 talker.1 shown.1 in
        let at : slice_get ended.served.items i ≡ Some shown.0 = ap (λ (l : List (Served L)). slice_get l i) served_are ∙ shown.1 in
        let lacks = or_parts (is_none shown.0.link || is_none shown.0.end) (is_some shown.0.stray) (or_parts (is_lacking shown.0) (is_out_of_turn (lines_kept log ended.log.items) i shown.0) (all_whole i shown.0 under at)).0 in
        let ends = has_end shown.0.end (or_parts (is_none shown.0.link) (is_none shown.0.end) lacks.0).1 in
        let shut : (y.view_of talker.0.seat.talk).pending ≡ next.Nothing = shows.closed.0 ends in
        let end : shown.0.end ≡ (y.view_of talker.0.seat.talk).end = shows.end ∙ ap (λ (n : Next). end_at n (y.view_of talker.0.seat.talk).end) shut in
        ap (λ (s : Seat T). is_memory (y.view_of s.talk).end) (sym seat_is) ∙ sym (ap is_memory end) ∙ not_memory shown.0.end (told.0.enough i shown.0 at)

  role_sound : (k : ℕ) (place : PlaceState H W T) → slice_get parts.states.items k ≡ Some place → (role : Role W T) → place.role ≡ role → is_spoilt_role y role ≡ false
  role_sound k place there (Polling desk) is_role = refl
  role_sound k place there Accepting is_role = refl
  role_sound k place there Logging is_role = refl
  role_sound zero place there (Talking seat) is_role = let polls = (ran.placed zero place there).polls refl in let both : Talking seat ≡ Polling polls.0 = sym is_role ∙ polls.1 in cc
  role_sound (suc zero) place there (Talking seat) is_role = let accepts = (ran.placed 1 place there).accepts refl in let both : Talking seat ≡ Accepting = sym is_role ∙ accepts in cc
  role_sound (suc (suc i)) place there (Talking seat) is_role =
      let at : i + 2 ≡ suc (suc i) = omega arith in
      elim (cases_lt i total) [
        | inl low ↦ seat_sound i low place seat (ap (slice_get parts.states.items) at ∙ there) is_role
        | inr high ↦
            let within = slice_get_within parts.states.items (suc (suc i)) place there in
            let many = ran.many in
            let last : suc (suc i) ≡ total + 2 = omega (arith, high, within, many, below_bit log) in
            let logs = (ran.placed (suc (suc i)) place there).logs last in
            let both : Talking seat ≡ Logging = sym is_role ∙ logs in
            cc
      ]

  none_spoilt : All (λ place. is_spoilt y place ≡ false) parts.states.items
  none_spoilt k d low =
      let place : PlaceState H W T = get_or parts.states.items k d in
      role_sound k place (slice_get-get_or parts.states.items k d low) place.role refl

  -- so the histories are those of the definition
  pub steps_modelled : (hall : H) (shape : Shape) (schedule : List (ℕ × ℕ)) → shape_of setup ≡ shape → rows_of (handlers_of setup) ≡ handler_rows → pinned_of setup ≡ 1
      → IsOfPaths x y l hall setup first log schedule how (map (λ history. history.items) parts.histories.items) parts.states.items
      → (paths : List (List Step)) → TellsPaths x l y hall first paths → AreOpened paths → IsRunOfPaths shape log paths schedule (map (λ history. history.items) ended.histories.items)
  steps_modelled hall shape schedule of_shape rows pinned modelled paths tells opened =
      subst (λ (hs : List (List Entry)). IsRunOfPaths shape log paths schedule hs) (ap (λ v. map (λ history. history.items) v.items) (sym is.histories))
      (modelled shape paths (λ i. record { shape = of_shape i; rows = rows i; pinned = pinned i }) tells opened whole.0 none_spoilt)
