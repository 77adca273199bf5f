-- What a shard behind its lock does and keeps.
use Rattle.std.proofs.Common.{◌≡◌, ◌<◌, ℕ, zero, suc, List, [], ◌∷◌, ◌++◌, Option, Some, None, Result, Ok, Err, map, take, length, sym, ◌∙◌, ap, subst, arith, length-append}
use Rattle.std.specs.List.{slice_get, AllByRecursion}
use Rattle.std.specs.Prelude.{option_map, IsErrAnd, max}
use Rattle.std.proofs.lemmas.Option.{slice_get-map}
use Rattle.std.proofs.lemmas.List.{append-nil, append_cancel_left}
use Rattle.mely_event.specs.declared.colour.Colour.{Colour}
use Rattle.mely_event.specs.declared.event.Event.{Event}
use Rattle.mely_event.specs.declared.trail.Trail.{Ghosts as TrailWords}
use Rattle.mely_history.specs.declared.setup.Setup.{Setup}
use Rattle.mely_history.specs.declared.entry.Entry.{Entry}
use Rattle.mely_history.specs.History.{ran_of}
use Rattle.mely_history.specs.Setup.{place}
use Rattle.mely_history.specs.Legal.{IsLegal, MayTake}
use Rattle.mely_history.specs.Owing.{IsOwed}
use Rattle.mely_history.proofs.OwingLemmas.{running_on, owed_at_point}
use Rattle.mely_note.specs.declared.note.Note.{Note}
use Rattle.mely_note.specs.Notes.{Rise, entries_of, noted_by, stamp_of, latest, home_of}
use Rattle.mely_note.proofs.NoteLemmas.{entries_of-append, no_entries_by}
use Rattle.mely_note.proofs.StampLemmas.{rise-push}
use Rattle.mely_queue.specs.Turn.{TurnState, EachFits}
use Rattle.mely_shard.specs.Shard.{ShardState, ColourState, lane_at, givens, IsOwn, KeepsFrame, Takes, TurnStands, IsConsistent, HomeStands}
use Rattle.mely_lock.specs.Seen.{OthersSince}
use Rattle.mely_kept.specs.Frames.{HaveFrame, shard_frame}
use Rattle.mely_kept.specs.Calls.{IsGiven}
use Rattle.mely_note.specs.ShowsNotes.{ShowsNotes}
use Rattle.mely_note.proofs.ShowLemmas.{if_home}

-- what holds of an error holds of the answer that is it
pub at_err : {T E : Type 0} (Holds : Result T E → Type 0) (answer : Result T E) (e : E) → IsErrAnd answer (λ x. x ≡ e) → Holds (Err e) → Holds answer
at_err Holds (Err x) e is holds = subst (λ y. Holds (Err y)) (sym is) holds
at_err Holds (Ok x) e is holds = absurd is

module _ {S P : Type 0} where
  -- notes that are as they were have no note more
  pub above_same : (notes : List (Note S P)) (known : ℕ) (note : Note S P) → notes ≡ notes ++ note ∷ [] → known < stamp_of note
  above_same notes known note is = absurd (omega (arith, ap length is, length-append notes (note ∷ [])))

  -- a note whose stamp is after those of the notes and after what was known
  module _ (notes after : List (Note S P)) (made : Note S P) (known : ℕ) (pushed : after ≡ notes ++ made ∷ []) (stamped : stamp_of made ≡ suc (max (latest notes) known)) where
    pub rise_pushed : Rise notes → Rise after
    rise_pushed rise = subst Rise (sym pushed) (rise-push notes made rise (omega (arith, stamped)))

    pub above_pushed : (note : Note S P) → after ≡ notes ++ note ∷ [] → known < stamp_of note
    above_pushed note is =
        let same : made ∷ [] ≡ note ∷ [] = append_cancel_left notes (made ∷ []) (note ∷ []) (sym pushed ∙ is) in
        let one : made ≡ note = cc in
        subst (λ m. known < stamp_of m) one (omega (arith, stamped))

-- the state that was given at first, where its lane stands
given_there : {S P : Type 0} (lanes : List (ColourState S P)) (i : ℕ) (lane : ColourState S P) → slice_get lanes i ≡ Some lane → slice_get (map (λ (l : ColourState S P). l.given) lanes) i ≡ Some lane.given
given_there lanes i lane is = slice_get-map (λ l. l.given) lanes i ∙ ap (option_map (λ l. l.given)) is

module _ {S P F : Type 0} (frame : S → F) (f : F) where
  -- the frame of a lane
  pub frame_of_lane : (has : ShardState S P) (c : Colour) (lane : ColourState S P) → HaveFrame frame f (givens has) → lane_at has c ≡ Some lane → frame lane.given ≡ f
  frame_of_lane has c lane have is = have _ lane.given (given_there has.lanes _ lane is)

  -- the frame stays
  pub frames_kept : (old new : ShardState S P) → KeepsFrame old new → HaveFrame frame f (givens old) → HaveFrame frame f (givens new)
  frames_kept old new keeps have i state is = have i state (ap (λ gs. slice_get gs i) (sym keeps.same_givens) ∙ is)

pub frame_stays : {S P F : Type 0} (frame : S → F) (old new : ShardState S P) (before after : List (Note S P)) (sample : S) → KeepsFrame old new → shard_frame frame (record { has = new; notes = after; sample = sample }) ≡ shard_frame frame (record { has = old; notes = before; sample = sample })
frame_stays frame old new before after sample keeps = λ i. record { setup = keeps.same_setup i; shard = keeps.same_shard i; states = frame sample; givens = record { of = record {}; items = keeps.same_givens i } }

module _ {S P F : Type 0} (t : TrailWords S F) (fits : F → Colour → Event → Option P → Type 0) where
  pub legal_stays : (old new : ShardState S P) (notes : List (Note S P)) → ShowsNotes new notes → KeepsFrame old new → IsConsistent t fits new → IsLegal old.setup (entries_of notes)
  legal_stays old new notes shows keeps kept = subst (IsLegal old.setup) shows.entries (subst (λ (s : Setup). IsLegal s new.history) keeps.same_setup kept.legal)

  -- the state that was at home
  home_stands : (history : List Entry) (c : Colour) (given home : S) (state : Option S) → state ≡ Some home → HomeStands t history c given state → (t.trail_of home ≡ ran_of history c) × (t.frame_of home ≡ t.frame_of given)
  home_stands history c given home (Some state) is stands = let same : state ≡ home = cc in (ap t.trail_of (sym same) ∙ stands.1, ap t.frame_of (sym same) ∙ stands.3)
  home_stands history c given home None is stands = cc

  each_take : {X : Type 0} (Q : X → Type 0) (n : ℕ) (xs : List X) → AllByRecursion Q xs → AllByRecursion Q (take n xs)
  each_take Q zero xs all = tt
  each_take Q (suc n) [] all = tt
  each_take Q (suc n) (x ∷ xs) all = (all.0, each_take Q n xs all.1)

  -- what a take gives
  pub gives : (old new : ShardState S P) (notes : List (Note S P)) (c : Colour) (core : ℕ) (f : F) (turn : TurnState S P) → IsOwn old c → IsConsistent t fits old → HaveFrame t.frame_of f (givens old) → ShowsNotes old notes
      → Takes old new c core turn → TurnStands t fits new turn → IsGiven t fits old.setup f (slice_get (givens old) (place old.setup c)) notes c core turn
  gives old new notes c core f turn own kept have shows does stands =
      let lane = kept.each c does.before own does.was in
      let shown = shows.each c does.before own does.was in
      let home = home_stands old.history c does.before.given does.home does.before.state does.at_home lane.state in
      let given_frame : t.frame_of does.before.given ≡ f = frame_of_lane t.frame_of f old c does.before have does.was in
      let state : turn.state ≡ does.home = ap (λ (x : TurnState S P). x.state) does.made in
      let of_colour : turn.colour ≡ c = ap (λ (x : TurnState S P). x.colour) does.made in
      let events : turn.events ≡ take turn.count does.before.events = ap (λ (x : TurnState S P). x.events) does.made in
      record {
        allowed = subst (λ h. MayTake old.setup h c core turn.count) shows.entries does.allowed;
        of_colour = of_colour;
        of_core = ap (λ (x : TurnState S P). x.core) does.made;
        events = events ∙ ap (take turn.count) shown.waits;
        state = λ first is.
            let given_is : Some does.before.given ≡ Some first = sym (given_there old.lanes _ does.before does.was) ∙ is in
            let same : does.before.given ≡ first = cc in
            state ∙ if_home does.before.state does.home (λ s. s ≡ home_of does.before.given notes c) does.at_home shown.home ∙ ap (λ g. home_of g notes c) same;
        trailed = ap t.trail_of state ∙ home.0 ∙ ap (λ h. ran_of h c) shows.entries;
        coloured = stands.coloured ∙ of_colour;
        framed = ap t.frame_of state ∙ home.1 ∙ given_frame;
        fit = subst (λ es. EachFits (fits f c) es) (sym events) (each_take (λ e. fits f c e.0 e.1) turn.count does.before.events (subst (λ k. EachFits (fits k c) does.before.events) given_frame lane.fit));
      }

  -- the condition of a finish, by what the pass is owed
  pub finish_stands : (has : ShardState S P) (notes : List (Note S P)) (f : F) (turn : TurnState S P) → IsConsistent t fits has → HaveFrame t.frame_of f (givens has) → ShowsNotes has notes → turn.events ≡ []
      → (front : List (Note S P)) × OthersSince noted_by turn.core front notes × IsOwed turn.core (entries_of front) turn.colour turn.core turn.count (t.trail_of turn.state) → t.colour_of turn.state ≡ turn.colour → t.frame_of turn.state ≡ f
      → TurnStands t fits has turn
  finish_stands has notes f turn kept have shows spent (front, (between, notes_on, none), seen) coloured framed =
      let goes_on : has.history ≡ entries_of front ++ entries_of between = shows.entries ∙ ap entries_of notes_on ∙ entries_of-append front between in
      let legal = subst (IsLegal has.setup) goes_on kept.legal in
      let owed = subst (λ h. IsOwed turn.core h turn.colour turn.core turn.count (t.trail_of turn.state)) (sym goes_on) (owed_at_point turn.core turn.colour has.setup (entries_of front) (entries_of between) turn.core turn.count (t.trail_of turn.state) (no_entries_by turn.core between none) legal seen) in
      let runs = running_on turn.core turn.colour has.setup has.history kept.legal turn.core turn.count owed.taken in
      record {
        away = record { running = omega (arith, runs.2, runs.3); last = runs.1 };
        trailed = ap (λ es. t.trail_of turn.state ++ map (λ e. e.0) es) spent ∙ append-nil (t.trail_of turn.state) ∙ owed.trailed;
        coloured = coloured;
        framed = λ i given is. framed ∙ sym (have i given is);
        fit = subst (λ es. EachFits (fits (t.frame_of turn.state) turn.colour) es) (sym spent) tt;
      }
