-- What one event puts fits, and what waits then may be sent.
use Rattle.std.proofs.Common.{◌≡◌, ◌<◌, ◌≤◌, Bool, true, false, List, [], ◌∷◌, ◌++◌, Option, length, refl, sym, ◌∙◌, ap, subst}
use Rattle.std.proofs.lemmas.List.{append-nil, map-append}
use Rattle.std.specs.List.{AllByRecursion}
use Rattle.mely_event.specs.declared.colour.Colour.{Colour}
use Rattle.mely_event.specs.declared.event.Event.{Event}
use Rattle.mely_worker.specs.Access.{FitsIn}
use Rattle.mely_actor.specs.declared.actor.Actor.{Ghosts as ActorWords}
use Rattle.mely_actor.specs.declared.load.Load.{Load}
use Rattle.mely_actor.specs.declared.load.Plan.{Plan}
use Rattle.mely_actor.specs.Loads.{ArePutsFit, FitsLoad, IsPut, as_put, as_puts, is_turn, turn_puts}
use Rattle.mely_actor.specs.KeptState.{KeptState}
use Rattle.mely_actor.specs.Running.{Does, Steps}
use Rattle.mely_actor.specs.Sending.{MaySend}
use Rattle.mely_actor.specs.Waiting.{put_now, turn_is_put, turning}
use Rattle.mely_actor.proofs.WaitingLemmas.{all_both, all_later, all_now, few_are, few_later, few_now}

-- where nothing waits and no more than two are sent, they are put
pub few_put : {M : Type 0} (event_of : M → Event) (colour : Colour) (waiting sends first second more : List (Colour × M)) (none one both : List (Colour × Event × Option (Load M))) → waiting ≡ [] → sends ≡ first ++ second ++ more → more ≡ [] → length sends ≤ 2 → none ≡ [] → one ≡ none ++ as_puts event_of first → both ≡ one ++ as_puts event_of second
    → IsPut event_of colour (turning false waiting) (turn_is_put false waiting (waiting ++ sends)) (waiting ++ sends) waiting both
few_put {M} event_of colour waiting sends first second more none one both empty parts nothing few start puts then_puts =
    let all : sends ≡ first ++ second = parts ∙ ap (λ l. first ++ second ++ l) nothing ∙ append-nil (first ++ second) in
    let put : both ≡ as_puts event_of sends = then_puts ∙ ap (λ l. l ++ as_puts event_of second) (puts ∙ ap (λ l. l ++ as_puts event_of first) start) ∙ sym (map-append (as_put event_of) first second) ∙ ap (as_puts event_of) (sym all) in
    subst (λ (w : List (Colour × M)). IsPut event_of colour (turning false w) (turn_is_put false w (w ++ sends)) (w ++ sends) w both) (sym empty) (record {
      puts_are = put ∙ sym (append-nil (as_puts event_of sends)) ∙ ap (λ l. as_puts event_of l ++ []) (sym (few_now sends few)) ∙ ap (λ t. as_puts event_of (put_now false sends) ++ turn_puts colour t) (sym (few_are sends few));
      left_is = sym (few_later sends few);
    })

module _ {A V M : Type 0} (a : ActorWords A V M) (plan : Plan A M) (colour : Colour) (there : colour.0 < a.colours_of plan.actor) (library : 0 < a.rows_of plan.actor) where
  abbrev pub May : Colour × M → Type 0
  May send = MaySend (a.colours_of plan.actor) (a.rows_of plan.actor) a.event_of (a.sound plan.actor) send

  abbrev pub Fits : Colour × Event × Option (Load M) → Type 0
  Fits put = FitsIn (a.colours_of plan.actor) (a.rows_of plan.actor) (FitsLoad (a.colours_of plan.actor) a.event_of (a.sound plan.actor) plan.posts.items) put

  each_fits : (sends : List (Colour × M)) → AllByRecursion May sends → AllByRecursion Fits (as_puts a.event_of sends)
  each_fits [] all = tt
  each_fits (send ∷ sends) all = (
    record { colour = all.0.there; handler = all.0.row; load = record { there = all.0.there; own = all.0.own; of_message = refl; is_sound = all.0.is_sound } },
    each_fits sends all.1,
  )

  turn_fits : (turn : Bool) → AllByRecursion Fits (turn_puts colour turn)
  turn_fits true = (record { colour = there; handler = library; load = record { there = there; turn = refl } }, tt)
  turn_fits false = tt

  module _ (busy turn : Bool) (waiting new left : List (Colour × M)) (puts : List (Colour × Event × Option (Load M))) (may : AllByRecursion May waiting) (allowed : AllByRecursion May new) (put : IsPut a.event_of colour busy turn (waiting ++ new) left puts) where
    all_may : AllByRecursion May (waiting ++ new)
    all_may = all_both May waiting new may allowed

    pub step_fits : ArePutsFit a plan.actor plan.posts.items puts
    step_fits = subst (AllByRecursion Fits) (sym put.puts_are) (all_both Fits (as_puts a.event_of _) (turn_puts colour turn) (each_fits _ (all_now May busy (waiting ++ new) all_may)) (turn_fits turn))

    pub step_may : AllByRecursion May left
    step_may = subst (AllByRecursion May) (sym put.left_is) (all_later May busy (waiting ++ new) all_may)

-- what an event does to the state of its colour, as contracts see it
pub stepped : {A V M : Type 0} (a : ActorWords A V M) (before now after : KeptState A M V) (load : Option (Load M)) (puts : List (Colour × Event × Option (Load M))) → before ≡ now → before.failed ≡ false → (sends : List (Colour × M)) → Does a before after sends load
    → IsPut a.event_of before.log.colour (turning (is_turn load) before.waiting) (turn_is_put (is_turn load) before.waiting (before.waiting ++ sends)) (before.waiting ++ sends) after.waiting puts → Steps a now load after puts
stepped a before now after load puts same well sends does put = subst (λ s. Steps a s load after puts) same (record { well = well; sends = sends; does = does; put = put })
