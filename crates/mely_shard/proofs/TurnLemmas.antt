-- What the other calls leave of a turn, and of what is a shard's own.
use Rattle.std.proofs.Common.{◌≡◌, ℕ, [], ◌∷◌, ◌++◌, Option, Some, map, take, sym, ◌∙◌, ap, subst, arith, add-zero, append_assoc}
use Rattle.std.specs.List.{slice_get}
use Rattle.std.proofs.lemmas.List.{take-append-le}
use Rattle.mely_event.specs.declared.colour.Colour.{Colour}
use Rattle.mely_event.specs.declared.event.Event.{Event}
use Rattle.mely_event.specs.declared.trail.Trail.{Ghosts as TrailWords}
use Rattle.mely_history.specs.declared.entry.Entry.TheVariants.{Reg}
use Rattle.mely_history.specs.History.{registered_of, begun_of, ended_of}
use Rattle.mely_history.specs.Legal.{IsRunningOn, IsLegal}
use Rattle.mely_history.specs.ColourAccount.{ColourAccount, account_of}
use Rattle.mely_history.proofs.ColourAccountLemmas.{account-with, account_with}
use Rattle.mely_history.proofs.LegalAccountLemmas.{begun_within}
use Rattle.mely_queue.specs.Turn.{TurnState, EachFits}
use Rattle.mely_shard.specs.Shard.{ShardState, KeepsFrame, TurnStands}

module _ {S P F : Type 0} {t : TrailWords S F} {fits : F → Colour → Event → Option P → Type 0} {old new : ShardState S P} {turn : TurnState S P} (stays : KeepsFrame old new) where
  -- a turn stands where the history is the same
  pub turn_stays : new.history ≡ old.history → TurnStands t fits old turn → TurnStands t fits new turn
  turn_stays same stands = record {
    away = subst (λ h. IsRunningOn h turn.colour turn.core turn.count) (sym same) stands.away;
    trailed = stands.trailed ∙ ap (λ h. take (begun_of h turn.colour) (registered_of h turn.colour)) (sym same);
    coloured = stands.coloured;
    framed = λ i given is. stands.framed i given (subst (λ gs. slice_get gs i ≡ Some given) stays.same_givens is);
    fit = stands.fit;
  }

  -- a registration, also on its own colour, leaves a turn as it stands
  pub turn_registered : (c : Colour) (event : Event) (by : ℕ) → IsLegal old.setup old.history → new.history ≡ old.history ++ Reg c event by ∷ [] → TurnStands t fits old turn → TurnStands t fits new turn
  turn_registered c event by legal more stands =
      let k = turn.colour in
      let with : account_of old.setup new.history k ≡ account_with k (account_of old.setup old.history k) (Reg c event by) = ap (λ h. account_of old.setup h k) more ∙ account-with old.setup old.history (Reg c event by) k in
      let begun : begun_of new.history k ≡ begun_of old.history k = ap (λ (s : ColourAccount). s.begun) with ∙ add-zero (begun_of old.history k) in
      let ended : ended_of new.history k ≡ ended_of old.history k = ap (λ (s : ColourAccount). s.ended) with ∙ add-zero (ended_of old.history k) in
      let within = begun_within old.setup old.history k legal in
      let runs = stands.away.running in
      record {
        away = record { running = omega (arith, begun, ended, runs); last = ap (λ (s : ColourAccount). s.last) with ∙ stands.away.last };
        trailed = stands.trailed ∙ sym (ap (λ n. take n (registered_of new.history k)) begun ∙ ap (take (begun_of old.history k)) (ap (λ (s : ColourAccount). s.registered) with) ∙ take-append-le (begun_of old.history k) (registered_of old.history k) _ within);
        coloured = stands.coloured;
        framed = λ i given is. stands.framed i given (subst (λ gs. slice_get gs i ≡ Some given) stays.same_givens is);
        fit = stands.fit;
      }

-- a turn still stands after one of its events was run: the event has joined the trail of its state,
-- whose colour and frame stayed
pub turn_ran : {S P F : Type 0} {t : TrailWords S F} {fits : F → Colour → Event → Option P → Type 0} {has : ShardState S P} {old new : TurnState S P} (first : Event × Option P) → TurnStands t fits has old
    → old.events ≡ first ∷ new.events → new.colour ≡ old.colour → new.core ≡ old.core → new.count ≡ old.count
    → t.trail_of new.state ≡ t.trail_of old.state ++ first.0 ∷ [] → t.colour_of new.state ≡ t.colour_of old.state → t.frame_of new.state ≡ t.frame_of old.state
    → TurnStands t fits has new
turn_ran {t = t} {fits = fits} {old = old} {new = new} first stands split colour core count trail of_colour of_frame = record {
  away = rw (colour, core, count) stands.away;
  trailed = rw (colour, trail) (append_assoc (t.trail_of old.state) (first.0 ∷ []) (map (λ e. e.0) new.events) ∙ sym (ap (λ es. t.trail_of old.state ++ map (λ e. e.0) es) split) ∙ stands.trailed);
  coloured = of_colour ∙ stands.coloured ∙ sym colour;
  framed = λ i given is. of_frame ∙ stands.framed i given is;
  fit = rw (of_frame, colour) (subst (EachFits (fits (t.frame_of old.state) old.colour)) split stands.fit).1;
}
