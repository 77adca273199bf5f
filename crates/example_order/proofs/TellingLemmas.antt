-- The handlers serve the stream, and two states begin it.
use Rattle.std.proofs.Common.{◌≡◌, ℕ, zero, suc, List, [], ◌∷◌, ◌++◌, Option, Some, length, refl, sym, ◌∙◌, ap, subst, arith}
use Rattle.std.proofs.lemmas.List.Elements.{filter_map-append}
use Rattle.std.proofs.lemmas.Option.{same_Some}
use Rattle.std.specs.Prelude.{filter_map, slice_get}
use Rattle.mely_event.specs.declared.event.Event.{Event}
use Rattle.mely_event.specs.declared.logged.Logged.{Logged}
use Rattle.mely_event.specs.declared.trail.Trail.{Ghosts as TrailWords}
use Rattle.mely_history.specs.declared.setup.Setup.{Setup}
use Rattle.mely_history.specs.Setup.{colours_of}
use Rattle.mely_weave.specs.Making.{AreInitial}
use Rattle.mely_order.specs.InOrder.{BeginsInOrder}
use Rattle.mely_order.specs.Rising.{Rises}
use Rattle.mely_order.specs.Seen.{Put}
use Rattle.mely_order.specs.Stream.{HandlerServes, numbers_put}
use Rattle.example_order.specs.Telling.{heard, number_in, telling}

-- the event joins the trail, and so what it tells is heard
hears : (before after : Logged ℕ) (event : Event) → after.log.events ≡ before.log.events ++ event ∷ [] → heard after ≡ heard before ++ filter_map number_in (event ∷ [])
hears before after event trail = ap (λ (l : List Event). filter_map number_in l) trail ∙ filter_map-append number_in before.log.events (event ∷ [])

-- a handler that tells nothing
pub serves_quietly : (before after : Logged ℕ) (event : Event) (load : Option (Unit {0})) (puts : List (Put (Unit {0}))) → after.log.events ≡ before.log.events ++ event ∷ [] → after.value ≡ before.value → puts ≡ [] → HandlerServes telling before.log.colour before (event, load) after puts
serves_quietly before after event load puts trail told none =
    let nothing : numbers_put telling puts ≡ [] = ap (λ (l : List (Put (Unit {0}))). numbers_put telling l) none in
    record {
      sound = refl;
      receives = λ own. hears before after event trail;
      sends = λ own. subst (λ (l : List ℕ). Rises before.value l after.value) (sym nothing) (omega (arith, told));
      counts = λ gapless own. let many = ap length nothing in omega (arith, told, many);
      silent = λ apart. nothing;
    }

-- the states at first
abbrev pub first_two : List (Logged ℕ)
first_two =
    (record { log = record { colour = record { 0 = 0 }; events = [] }; value = 0 })
    ∷ (record { log = record { colour = record { 0 = 1 }; events = [] }; value = 0 }) ∷ []

pub begins : (states : List (Logged ℕ)) → states ≡ first_two → BeginsInOrder telling states
begins states are = subst (λ (l : List (Logged ℕ)). BeginsInOrder telling l) (sym are) (record {
  receiver = record { log = record { colour = record { 0 = 0 }; events = [] }; value = 0 };
  receiver_is = refl;
  sender = record { log = record { colour = record { 0 = 1 }; events = [] }; value = 0 };
  sender_is = refl;
  rises = omega arith;
  counted = λ gapless. refl;
  sound = λ i state at. refl;
})

pub initial_two : {F : Type 0} (t : TrailWords (Logged ℕ) F) (setup : Setup) (states : List (Logged ℕ)) → ((s : Logged ℕ) → t.colour_of s ≡ s.log.colour) → ((s : Logged ℕ) → t.trail_of s ≡ s.log.events) → ((a b : Logged ℕ) → t.frame_of a ≡ t.frame_of b) → states ≡ first_two → colours_of setup ≡ 2 → AreInitial t setup states
initial_two t setup states colour trail frame are two = subst (λ (l : List (Logged ℕ)). AreInitial t setup l) (sym are) (record {
  all = sym two;
  coloured = coloured;
  untouched = untouched;
  one_frame = λ i j a b one other. frame a b;
}) where
  coloured : (i : ℕ) (state : Logged ℕ) → slice_get first_two i ≡ Some state → t.colour_of state ≡ record { 0 = i }
  coloured zero state at = colour state ∙ ap (λ (s : Logged ℕ). s.log.colour) (sym (same_Some _ state at))
  coloured (suc zero) state at = colour state ∙ ap (λ (s : Logged ℕ). s.log.colour) (sym (same_Some _ state at))
  coloured (suc (suc i)) state at = cc

  untouched : (i : ℕ) (state : Logged ℕ) → slice_get first_two i ≡ Some state → t.trail_of state ≡ []
  untouched zero state at = trail state ∙ ap (λ (s : Logged ℕ). s.log.events) (sym (same_Some _ state at))
  untouched (suc zero) state at = trail state ∙ ap (λ (s : Logged ℕ). s.log.events) (sym (same_Some _ state at))
  untouched (suc (suc i)) state at = cc

-- a list of no length has nothing
pub nothing_in : {A : Type 0} (xs : List A) → length xs ≡ 0 → xs ≡ []
nothing_in [] none = refl
nothing_in (x ∷ xs) none = absurd (omega (arith, none))
