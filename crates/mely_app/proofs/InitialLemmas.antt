-- States made one after another are the initial states of a setup.
use Rattle.std.proofs.Common.{◌≡◌, ℕ, ◌+◌, List, [], ◌∷◌, ◌++◌, Some, length, refl, sym, ◌∙◌, arith}
use Rattle.std.proofs.lemmas.List.{length-append}
use Rattle.std.specs.Prelude.{slice_get}
use Rattle.mely_event.specs.declared.trail.Trail.{Ghosts as TrailWords}
use Rattle.mely_history.specs.declared.setup.Setup.{Setup}
use Rattle.mely_history.specs.Setup.{colours_of}
use Rattle.mely_weave.specs.Making.{AreInitial}
use Rattle.mely_weave.proofs.Wholes.DealLemmas.{each_push}

module _ {S F : Type 0} (t : TrailWords S F) (frame : F) where
  -- a state of the colour and the frame, on which nothing was run
  pub record IsInitialState (n : ℕ) (state : S) : Type 0 where
    pub colour : t.colour_of state ≡ record { 0 = n }
    pub untouched : t.trail_of state ≡ []
    pub framed : t.frame_of state ≡ frame

  -- so many, one for each colour
  pub record AreInitialStates (count : ℕ) (states : List S) : Type 0 where
    pub many : length states ≡ count
    pub each : (n : ℕ) (state : S) → slice_get states n ≡ Some state → IsInitialState n state

  pub none_initial : AreInitialStates 0 []
  none_initial = record { many = refl; each = λ n state at. cc }

  pub more_initial : (count : ℕ) (states : List S) (state : S) → AreInitialStates count states → IsInitialState count state → AreInitialStates (count + 1) (states ++ state ∷ [])
  more_initial count states state old new = record {
    many = (let was = old.many in let len = length-append states (state ∷ []) in let one : length (state ∷ []) ≡ 1 = refl in omega (arith, len, was, one));
    each = each_push IsInitialState states state count old.many old.each new;
  }

  pub are_initial : (setup : Setup) (states : List S) → AreInitialStates (colours_of setup) states → AreInitial t setup states
  are_initial setup states each_is = record {
    all = each_is.many;
    coloured = λ i state at. (each_is.each i state at).colour;
    untouched = λ i state at. (each_is.each i state at).untouched;
    one_frame = λ i j a b first other. (each_is.each i a first).framed ∙ sym (each_is.each j b other).framed;
  }
