-- What is handed out of events, one list behind another.
use Rattle.std.proofs.Common.{◌≡◌, ℕ, get_or, zero, suc, true, false, ◌<◌, ◌≤◌, List, [], ◌∷◌, ◌++◌, Option, None, Some, Vec, Global, append_assoc, append-nil, length, map, refl, sym, ◌∙◌, ap, subst, arith}
use Rattle.std.proofs.lemmas.List.{map-append}
use Rattle.std.proofs.lemmas.Option.{same_Some, slice_get-get_or}
use Rattle.std.specs.Prelude.{slice_get, slice_set, flat_map, is_some}
use Rattle.mely_event.specs.declared.colour.Colour.{Colour}
use Rattle.mely_event.specs.declared.event.Event.{Event}
use Rattle.mely_tally.specs.Tallies.{carried_by}
use Rattle.sws_handlers.specs.declared.ended.Served.{Served}
use Rattle.sws_handlers.specs.declared.left.Left.{Left}
use Rattle.sws_handlers.specs.declared.load.WorldLoad.{WorldLoad}
use Rattle.sws_handlers.specs.declared.load.Load.{Load}
use Rattle.sws_handlers.specs.declared.load.Load.TheVariants as load
use Rattle.sws_handlers.specs.RunLeaves.{or_else}
use Rattle.sws_handlers.specs.Handing.{give_link, place_link, served_with_load, world_with_load, served_with_loads, world_with_loads, HandsOut}

-- nothing is given where there is no connection, or one that has a link
pub place_past : {L : Type 0} (link : L) (i : ℕ) (served : List (Served L)) → length served ≤ i → place_link link i served ≡ served
place_past link i [] past = refl
place_past link zero (s ∷ served) past = absurd (omega (arith, past))
place_past link (suc i) (s ∷ served) past = ap (λ l. s ∷ l) (place_past link i served (omega (arith, past)))

place_set : {L : Type 0} (link : L) (i : ℕ) (served : List (Served L)) (s : Served L) → slice_get served i ≡ Some s → place_link link i served ≡ slice_set served i (give_link link s)
place_set link i [] s at = cc
place_set link zero (x ∷ served) s at = ap (λ o. give_link link o ∷ served) (same_Some x s at)
place_set link (suc i) (x ∷ served) s at = ap (λ l. x ∷ l) (place_set link i served s at)

or_none : {A : Type 0} (o w : Option A) → is_some o ≡ false → or_else o w ≡ w
or_none None w none = refl
or_none (Some a) w none = cc

or_some : {A : Type 0} (o w : Option A) → is_some o ≡ true → or_else o w ≡ o
or_some None w some = cc
or_some (Some a) w some = refl

module _ {L : Type 0} (link : L) (i place : ℕ) (served : List (Served L)) (s : Served L) (same : place ≡ i) (low : place < length served) (is : s ≡ get_or served place s) where
  there : slice_get served i ≡ Some s
  there = ap (slice_get served) (sym same) ∙ slice_get-get_or served place s low ∙ ap (λ (x : Served L). Some x) (sym is)

  pub place_new : is_some s.link ≡ false → slice_set served place (record s { link = Some link }) ≡ place_link link i served
  place_new none = ap (λ k. slice_set served k (record s { link = Some link })) same ∙ ap (λ (o : Option L). slice_set served i (record s { link = o })) (sym (or_none s.link (Some link) none)) ∙ sym (place_set link i served s there)

  pub place_old : is_some s.link ≡ true → slice_set served place s ≡ place_link link i served
  place_old some = ap (λ k. slice_set served k s) same ∙ ap (λ (o : Option L). slice_set served i (record s { link = o })) (sym (or_some s.link (Some link) some)) ∙ sym (place_set link i served s there)

lists_push : {A : Type 0} (queues : List (Vec A Global)) (queue : Vec A Global) → flat_map (λ events. events) (map (λ events. events.items) (queues ++ queue ∷ [])) ≡ flat_map (λ events. events) (map (λ events. events.items) queues) ++ queue.items
lists_push [] queue = append-nil queue.items
lists_push (first ∷ queues) queue = ap (λ l. first.items ++ l) (lists_push queues queue) ∙ sym (append_assoc first.items (flat_map (λ events. events) (map (λ events. events.items) queues)) queue.items)

module _ {W L : Type 0} where
  served_more : (xs ys : List (Event × Option (Load W L))) (served : List (Served L)) → served_with_loads (xs ++ ys) served ≡ served_with_loads ys (served_with_loads xs served)
  served_more [] ys served = refl
  served_more (x ∷ xs) ys served = served_more xs ys (served_with_load x.0.arg x.1 served)

  world_more : (xs ys : List (Event × Option (Load W L))) (world : Option (WorldLoad W)) → world_with_loads (xs ++ ys) world ≡ world_with_loads ys (world_with_loads xs world)
  world_more [] ys world = refl
  world_more (x ∷ xs) ys world = world_more xs ys (world_with_load x.1 world)

  pub hand_more : (xs ys : List (Event × Option (Load W L))) (a b c : Left W L) → HandsOut xs a b → HandsOut ys b c → HandsOut (xs ++ ys) a c
  hand_more xs ys a b c one other = record {
    served = other.served ∙ ap (λ (l : List (Served L)). served_with_loads ys l) one.served ∙ sym (served_more xs ys a.served.items);
    world = other.world ∙ ap (λ (o : Option (WorldLoad W)). world_with_loads ys o) one.world ∙ sym (world_more xs ys a.world);
    trails = other.trails ∙ one.trails;
    log = other.log ∙ one.log;
  }

  -- one list of events more
  pub hand_lists : (queues : List (Vec (Event × Option (Load W L)) Global)) (queue : Vec (Event × Option (Load W L)) Global) (a b c : Left W L) → HandsOut (flat_map (λ events. events) (map (λ events. events.items) queues)) a b → HandsOut queue.items b c → HandsOut (flat_map (λ events. events) (map (λ events. events.items) (queues ++ queue ∷ []))) a c
  hand_lists queues queue a b c one other =
      let before : List (Event × Option (Load W L)) = flat_map (λ events. events) (map (λ events. events.items) queues) in
      let split : flat_map (λ events. events) (map (λ events. events.items) (queues ++ queue ∷ [])) ≡ before ++ queue.items = lists_push queues queue in
      subst (λ (l : List (Event × Option (Load W L))). HandsOut l a c) (sym split) (hand_more before queue.items a b c one other)

  -- one registration more
  pub hand_put : (puts : List (Colour × Event × Option (Load W L))) (put : Colour × Event × Option (Load W L)) (a b c : Left W L) → HandsOut (carried_by puts) a b → HandsOut ((put.1, put.2) ∷ []) b c → HandsOut (carried_by (puts ++ put ∷ [])) a c
  hand_put puts put a b c one other =
      subst (λ (l : List (Event × Option (Load W L))). HandsOut l a c) (sym (map-append (λ (p : Colour × Event × Option (Load W L)). (p.1, p.2)) puts (put ∷ []))) (hand_more (carried_by puts) ((put.1, put.2) ∷ []) a b c one other)

place_length : {L : Type 0} (link : L) (i : ℕ) (served : List (Served L)) → length (place_link link i served) ≡ length served
place_length link i [] = refl
place_length link zero (s ∷ served) = refl
place_length link (suc i) (s ∷ served) = ap suc (place_length link i served)

load_length : {W L : Type 0} (i : ℕ) (carried : Option (Load W L)) (served : List (Served L)) → length (served_with_load i carried served) ≡ length served
load_length i None served = refl
load_length i (Some (load.World held)) served = refl
load_length i (Some (load.Link link)) served = place_length link i served
load_length i (Some (load.Line line)) served = refl

-- what is handed out leaves as many connections
pub served_length : {W L : Type 0} (events : List (Event × Option (Load W L))) (served : List (Served L)) → length (served_with_loads events served) ≡ length served
served_length [] served = refl
served_length (e ∷ events) served = served_length events (served_with_load e.0.arg e.1 served) ∙ load_length e.0.arg e.1 served

pub handed_many : {W L : Type 0} (events : List (Event × Option (Load W L))) (before after : Left W L) → HandsOut events before after → length after.served.items ≡ length before.served.items
handed_many events before after hands = ap (λ l. length l) hands.served ∙ served_length events before.served.items
