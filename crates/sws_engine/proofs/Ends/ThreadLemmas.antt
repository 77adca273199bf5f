-- What a run on threads leaves, of the parts of the weave that its fleet was closed into.
use Rattle.std.proofs.Common.{Some, ◌≡◌, ℕ, Bool, List, [], Option, length, map, refl, sym, ◌∙◌, ap, subst, arith}
use Rattle.std.specs.Prelude.{slice_get}
use Rattle.std.specs.List.{AllByRecursion}
use Rattle.mely_event.specs.declared.colour.Colour.{Colour}
use Rattle.mely_event.specs.declared.event.Event.{Event}
use Rattle.mely_event.specs.declared.trail.Trail.{Ghosts as TrailWords}
use Rattle.mely_history.specs.Legal.{AreLegal}
use Rattle.mely_history.specs.Setup.{shape_of, colours_of}
use Rattle.mely_history.specs.declared.entry.Entry.{Entry}
use Rattle.mely_history.specs.declared.setup.Setup.{Setup}
use Rattle.mely_history.specs.declared.shape.Shape.{Shape}
use Rattle.mely_weave.specs.Dealing.{AtEach}
use Rattle.mely_weave.specs.Drains.{HistoriesAreDrained}
use Rattle.mely_machine.specs.Rules.{rules_of}
use Rattle.mely_weave.specs.Side.{shard_of}
use Rattle.mely_weave.specs.Weave.{WeaveState}
use Rattle.mely_weave.specs.declared.draining.Drained.{Drained}
use Rattle.mely_weave.specs.declared.draining.Drained.TheVariants.{Empty}
use Rattle.mely_weave.specs.declared.parts.WeaveParts.{WeaveParts}
use Rattle.mely_tally.specs.Tells.{IsTakenApart}
use Rattle.sws_link.specs.declared.Link.{Ghosts as LinkWords}
use Rattle.sws_link.specs.declared.world.World.{Ghosts as WorldWords}
use Rattle.sws_steps.specs.declared.talk.Talk.{Ghosts as TalkWords}
use Rattle.sws_handlers.specs.declared.ended.Ended.{Ended}
use Rattle.sws_handlers.specs.declared.load.Load.{Load}
use Rattle.sws_handlers.specs.declared.place.Frame.{Frame}
use Rattle.sws_handlers.specs.declared.place.Role.{Role}
use Rattle.sws_handlers.specs.declared.place.Role.TheVariants.{Polling, Accepting, Talking, Logging}
use Rattle.sws_handlers.specs.Place.{PlaceState}
use Rattle.sws_handlers.specs.Invariant.{RoleStands, IsConsistent}
use Rattle.sws_weave.specs.ServerRun.{server_rules}
use Rattle.sws_weave.specs.RunFits.{RunFits}
use Rattle.sws_handlers.specs.Counting.{colours_over}
use Rattle.sws_handlers.specs.RunLeaves.{StateTells}
use Rattle.sws_handlers.specs.Conclusion.{IsConcluded}
use Rattle.sws_weave.specs.PartsKept.{IsPlacedAs, PartsKept}
use Rattle.sws_weave.specs.CrewEnds.{CrewEnds}
use Rattle.sws_engine.specs.CrewLeaves.{HandlersRan, HasRunCrew}
use Rattle.sws_weave.proofs.Ends.HasRunLemmas.{has_run, histories_are, ran_whole}

-- what a state keeps says which role it has
module _ {W L T G H : Type 0} (x : WorldWords W L) (l : LinkWords L) (y : TalkWords T L G H) where
  role_placed : (i : ℕ) (place : PlaceState H W T) (role : Role W T) → place.role ≡ role → place.colour.0 ≡ i → RoleStands x l y place.hall place.first place.colour place.trail place.lines.came role → IsPlacedAs (x.tells place.first).total i place
  role_placed i place (Polling desk) is colour stands = let at = stands.0 in record {
    colour = colour;
    polls = λ none. (desk, is);
    accepts = λ one. absurd (omega (arith, colour, at, one));
    talks = λ two under. absurd (omega (arith, colour, at, two));
    logs = λ last. absurd (omega (arith, colour, at, last));
  }
  role_placed i place Accepting is colour stands = record {
    colour = colour;
    polls = λ none. absurd (omega (arith, colour, stands, none));
    accepts = λ one. is;
    talks = λ two under. absurd (omega (arith, colour, stands, two));
    logs = λ last. absurd (omega (arith, colour, stands, last));
  }
  role_placed i place (Talking seat) is colour stands = let at = stands.0.0 in let below = stands.0.1 in record {
    colour = colour;
    polls = λ none. absurd (omega (arith, colour, at, none));
    accepts = λ one. absurd (omega (arith, colour, at, one));
    talks = λ two under. (seat, is);
    logs = λ last. absurd (omega (arith, colour, below, last));
  }
  role_placed i place Logging is colour stands = let at = stands.0 in record {
    colour = colour;
    polls = λ none. absurd (omega (arith, colour, at, none));
    accepts = λ one. absurd (omega (arith, colour, at, one));
    talks = λ two under. absurd (omega (arith, colour, at, under));
    logs = λ last. is;
  }

  kept_placed : (i : ℕ) (place : PlaceState H W T) → place.colour.0 ≡ i → IsConsistent x l y place → IsPlacedAs (x.tells place.first).total i place
  kept_placed i place colour kept = role_placed i place place.role refl colour kept

module _ {W L T G H : Type 0} (x : WorldWords W L) (l : LinkWords L) (y : TalkWords T L G H) (t : TrailWords (PlaceState H W T) (Frame H W)) (setup : Setup) (first : W) (log : Bool) (how : Drained) (weave : WeaveState (PlaceState H W T) (Load W L))
    (histories : List (List Entry)) (states : List (PlaceState H W T)) (queued : List (List (Event × Option (Load W L)))) (lost : List (Colour × Event × Option (Load W L)))
    (apart : IsTakenApart t weave histories states queued lost) (of_setup : weave.setup ≡ setup) (colours : colours_of setup ≡ colours_over (x.tells first).total log) (drained_is : how ≡ Empty → HistoriesAreDrained weave) (many_histories : length histories ≡ (shape_of weave.setup).shards)
    (of_world : weave.given.first ≡ first) (kept : AtEach (λ i place. IsConsistent x l y place) states)
    (colour_is : (s : PlaceState H W T) → t.colour_of s ≡ s.colour) (trail_is : (s : PlaceState H W T) → t.trail_of s ≡ s.trail) (frame_is : (s : PlaceState H W T) → t.frame_of s ≡ record { hall = s.hall; first = s.first }) where
  first_is : (s : PlaceState H W T) → (t.frame_of s).first ≡ s.first
  first_is s = ap (λ (f : Frame H W). f.first) (frame_is s)

  world_of_place : (i : ℕ) (place : PlaceState H W T) → slice_get states i ≡ Some place → place.first ≡ first
  world_of_place i place at = sym (first_is place) ∙ ap (λ (f : Frame H W). f.first) (apart.framed (record { 0 = i }) place at) ∙ first_is weave.given ∙ of_world

  pub parts_kept : PartsKept x y setup first log how histories states queued
  parts_kept = record {
    legal = subst (λ (s : Setup). AreLegal s histories) of_setup apart.legal;
    shards = many_histories ∙ ap (λ (s : Setup). (shape_of s).shards) of_setup;
    drained = λ empty. apart.drained (drained_is empty);
    emptied = λ empty. apart.emptied (drained_is empty);
    many = apart.many ∙ ap (λ (s : Setup). colours_of s) of_setup ∙ colours;
    placed = λ i place at. subst (λ (w : W). IsPlacedAs (x.tells w).total i place) (world_of_place i place at) (kept_placed x l y i place (ap (λ (c : Colour). c.0) (sym (colour_is place) ∙ apart.coloured (record { 0 = i }) place at)) (kept i place at));
    of_world = world_of_place;
    trailed = λ c place history at there. sym (trail_is place) ∙ apart.trailed c place history at (ap (λ (s : Setup). slice_get histories (shard_of s c)) of_setup ∙ there);
  }

module _ {W L T G H : Type 0} (x : WorldWords W L) (l : LinkWords L) (y : TalkWords T L G H) (shape : Shape) (setup : Setup) (hall : H) (first : W) (log : Bool) (how : Drained) (parts : WeaveParts (PlaceState H W T) (Load W L)) (ended : Ended W L)
    (rules : rules_of setup ≡ server_rules shape) (colours : colours_of setup ≡ colours_over (x.tells first).total log)
    (kept : PartsKept x y setup first log how (map (λ history. history.items) parts.histories.items) parts.states.items (map (λ events. events.items) parts.queued.items))
    (crew : how ≡ Empty → parts.lost.items ≡ [] → CrewEnds y (x.tells first).total log parts.states.items)
    (fits : RunFits x l first hall parts.states.items (map (λ events. events.items) parts.queued.items) parts.lost.items)
    (is : IsConcluded y (x.tells first).total log how parts ended) (tell : AllByRecursion (StateTells x l y) parts.states.items) where
  -- what the run leaves, and what its handlers have done
  pub has_run_crew : HandlersRan x l y hall first log setup (map (λ history. history.items) parts.histories.items) parts.lost.items → HasRunCrew x l y shape hall first log ended
  unfolding has_run
  has_run_crew handled = record {
    run = has_run x l y shape setup hall first log how parts ended rules colours kept crew fits is tell;
    lost = parts.lost.items;
    handled = subst (λ (all : List (List Entry)). HandlersRan x l y hall first log setup all parts.lost.items) (sym (histories_are x l y shape setup hall first log how parts ended rules colours kept crew fits is tell)) handled;
    none_lost = λ isnt. (ran_whole x l y shape setup hall first log how parts ended rules colours kept crew fits is tell isnt).1;
  }
