-- A connection that was served to its close, over a link that told its answers to come, ran the
-- path and came to the outcome of its script.
use Rattle.std.proofs.Common.{◌≡◌, ℕ, ◌++◌, List, [], ◌∷◌, false, Option, None, Some, map, refl, sym, ◌∙◌, ap, subst, append-nil}
use Rattle.std.proofs.lemmas.Option.{same_Some}
use Rattle.std.specs.Prelude.{slice_get, option_map}
use Rattle.sws_link.specs.declared.Link.{Ghosts as LinkWords}
use Rattle.sws_link.specs.declared.world.World.{Ghosts as WorldWords}
use Rattle.sws_link.specs.Links.{LinkContents}
use Rattle.sws_link.specs.Scripts.{Script}
use Rattle.sws_link.specs.Worlds.{Coming}
use Rattle.sws_steps.specs.declared.End.{End}
use Rattle.sws_steps.specs.declared.End.TheVariants as ending
use Rattle.sws_steps.specs.declared.Next.TheVariants as next
use Rattle.sws_steps.specs.declared.talk.Talk.{Ghosts as TalkWords}
use Rattle.sws_conn.specs.Outcome.{Outcome, UnlessMemory}
use Rattle.sws_steps.specs.declared.Handler.{Handler}
use Rattle.sws_steps.specs.declared.Handler.TheVariants as handler
use Rattle.sws_conn.specs.Path.{TakesOff, answers_to_come}
use Rattle.sws_conn.specs.Conn.{end_at}
use Rattle.sws_conn.specs.Talks.{TalkView, unopened_view, due, path_to_come, IsDue, ComesTo}
use Rattle.sws_handlers.specs.declared.ended.Served.{Served}
use Rattle.sws_handlers.specs.declared.place.Seat.{Seat}
use Rattle.sws_weave.specs.ConnFollows.{ConnFollows}
use Rattle.sws_handlers.specs.Handling.{conn_of}
use Rattle.sws_handlers.specs.Tasks.{event_for}
use Rattle.sws_handlers.specs.Loads.{IsComing, LinkStands}
use Rattle.sws_handlers.specs.Place.{PlaceState}
use Rattle.sws_handlers.specs.RunLeaves.{is_out_of_memory, ShowsSeat}
use Rattle.sws_handlers.specs.Served.{SeatServes, ServedBy, OnPath}

-- a fact that holds unless memory ran out holds where it didn't
unless : (e : Option End) (Fact : Type 0) → is_out_of_memory e ≡ false → UnlessMemory e Fact → Fact
unless None Fact enough fact = fact
unless (Some ending.Done) Fact enough fact = fact
unless (Some ending.Idle) Fact enough fact = fact
unless (Some ending.Fault) Fact enough fact = fact
unless (Some ending.Memory) Fact enough fact = cc

module _ {W L T G H : Type 0} (x : WorldWords W L) (l : LinkWords L) (y : TalkWords T L G H) (i : ℕ) (place : PlaceState H W T) (seat : Seat T) (s : Served L) (serves : SeatServes x l y place seat) (shows : ShowsSeat y seat s)
    (conn_is : conn_of place.colour ≡ i) (closed : due (y.view_of seat.talk) ≡ None) (nothing : (y.view_of seat.talk).pending ≡ next.Nothing) (unstrayed : seat.stray ≡ None) (enough : is_out_of_memory s.end ≡ false)
    (coming : List Coming) (one : Coming) (script : Script) (known : (x.tells place.first).coming ≡ Some coming) (at : slice_get coming i ≡ Some one) (answers : one.answers ≡ Some script) where
  abbrev view : TalkView
  view = y.view_of seat.talk

  end_is : s.end ≡ view.end
  end_is = shows.end ∙ ap (λ p. end_at p view.end) nothing

  sound : is_out_of_memory view.end ≡ false
  sound = ap is_out_of_memory (sym end_is) ∙ enough

  -- what the link of the connection tells at first
  tells_at : (link : L) → LinkStands x l place.first (conn_of place.colour) link → answers_to_come (l.tells link) ≡ Some script
  tells_at link stands =
      let is : IsComing (Some coming) i (l.tells link) = subst (λ (n : ℕ). IsComing (Some coming) n (l.tells link)) conn_is (subst (λ (c : Option (List Coming)). IsComing c (conn_of place.colour) (l.tells link)) known stands.coming) in
      let same : is.0 ≡ one = same_Some is.0 one (sym is.1 ∙ at) in
      ap answers_to_come is.2 ∙ ap (λ (c : Coming). c.answers) same ∙ answers

  opened : view ≡ unopened_view → ⊥
  opened initial = let both : None ≡ Some handler.Open = sym closed ∙ ap due initial in cc

  -- all of the path was run
  all_run : (ran : List Handler) → OnPath x l y place seat ran → y.path place.hall script ≡ ran
  all_run [] on = absurd (opened on)
  all_run (step ∷ steps) on =
      let told : path_to_come (y.path place.hall) (l.tells on.0) ≡ Some (y.path place.hall script) = ap (λ (a : Option Script). option_map (y.path place.hall) a) (tells_at on.0 on.1) in
      let takes0 = unless view.end (TakesOff (step ∷ steps) (path_to_come (y.path place.hall) (l.tells on.0)) (y.rest_of seat.talk)) sound on.2 in
      let takes : TakesOff (step ∷ steps) (Some (y.path place.hall script)) (y.rest_of seat.talk) = subst (λ (p : Option (List Handler)). TakesOff (step ∷ steps) p (y.rest_of seat.talk)) told takes0 in
      let due0 : IsDue None (y.rest_of seat.talk) = subst (λ (d : Option Handler). IsDue d (y.rest_of seat.talk)) closed on.3 in
      let none : IsDue None (Some takes.0) = subst (λ (r : Option (List Handler)). IsDue None r) takes.1 due0 in
      takes.2 ∙ ap (λ (rest : List Handler). (step ∷ steps) ++ rest) none ∙ append-nil (step ∷ steps)

  trail_is : place.trail ≡ map (event_for i) (y.path place.hall script)
  trail_is =
      let trailed = serves.trailed unstrayed in
      trailed.1 ∙ ap (λ (n : ℕ). map (event_for n) trailed.0) conn_is ∙ ap (λ (ran : List Handler). map (event_for i) ran) (sym (all_run trailed.0 trailed.2))

  comes : (o : Option L) → y.link_of seat.talk ≡ o → ServedBy x l y place seat o → (e : Option End) → s.end ≡ e → ((e ≡ None) → ⊥) → ConnFollows l y place.hall i script place.trail s
  comes None link_is served e is some = absurd (opened served)
  comes (Some now) link_is served None is some = absurd (some refl)
  comes (Some now) link_is served (Some e) is some =
      let begun = served.0 in
      let told : option_map (y.outcome place.hall) (answers_to_come (l.tells begun)) ≡ Some (y.outcome place.hall script) = ap (λ (a : Option Script). option_map (y.outcome place.hall) a) (tells_at begun served.1) in
      let come0 : ComesTo (option_map (y.outcome place.hall) (answers_to_come (l.tells begun))) (l.tells now) e = served.2.outcome_is e (sym shows.end ∙ is) in
      let come : ComesTo (Some (y.outcome place.hall script)) (l.tells now) e = subst (λ (o : Option Outcome). ComesTo o (l.tells now) e) told come0 in
      let all = unless (Some e) ((tells : LinkContents) × (l.tells now ≡ Some tells) × (tells.written ≡ (y.outcome place.hall script).bytes) × (e ≡ (y.outcome place.hall script).end)) (ap is_out_of_memory (sym is) ∙ enough) come in
      record {
        path = trail_is;
        link = now;
        there = shows.link ∙ link_is;
        tells = all.0;
        told = all.1;
        bytes = all.2;
        end = is ∙ ap (λ (k : End). Some k) all.3;
      }

  pub followed : ((s.end ≡ None) → ⊥) → ConnFollows l y place.hall i script place.trail s
  followed some = comes (y.link_of seat.talk) refl serves.served s.end refl some
