-- The turns of a colour, where one worker changes.
use Rattle.std.proofs.Common.{◌≡◌, ◌≢◌, ℕ, zero, suc, Bool, List, [], ◌∷◌, ◌++◌, Option, Some, refl, sym, ◌∙◌, ap, arith, eq-eqb}
use Rattle.std.proofs.lemmas.Bool.{ne_eqb}
use Rattle.std.proofs.lemmas.List.{append-nil}
use Rattle.std.proofs.lemmas.Option.{same_Some}
use Rattle.std.specs.Prelude.{slice_get, slice_set, flat_map, if◌then◌else◌}
use Rattle.mely_event.specs.declared.colour.Colour.{Colour}
use Rattle.mely_queue.specs.Turn.{TurnState}
use Rattle.mely_worker.specs.declared.phase.Phase.TheVariants.{Turning}
use Rattle.mely_worker.specs.declared.delivery.Delivery.{Delivery}
use Rattle.mely_worker.specs.Worker.{WorkerState}
use Rattle.mely_weave.proofs.Entries.SideLemmas.{get_set_same, get_set_other}
use Rattle.mely_tally.specs.Tallies.{Carried}
use Rattle.mely_order.specs.Seen.{Put, TurnOut, ColourSeen, turn_in, turns_of}

-- ---- lists of lists

pub flat_none : {A X : Type 0} (h : A → List X) (xs : List A) → ((i : ℕ) (a : A) → slice_get xs i ≡ Some a → h a ≡ []) → flat_map h xs ≡ []
flat_none h [] none = refl
flat_none h (a ∷ more) none = ap (λ l. l ++ flat_map h more) (none 0 a refl) ∙ flat_none h more (λ i b at. none (suc i) b at)

-- only one of them has anything
pub flat_at_one : {A X : Type 0} (h : A → List X) (xs : List A) (k : ℕ) (a : A) → slice_get xs k ≡ Some a → ((j : ℕ) (b : A) → (j ≡ k → ⊥) → slice_get xs j ≡ Some b → h b ≡ []) → flat_map h xs ≡ h a
flat_at_one h [] k a at none = cc
flat_at_one h (x ∷ xs) zero a at none =
    ap (λ l. h x ++ l) (flat_none h xs (λ i b there. none (suc i) b (λ is. cc) there)) ∙ append-nil (h x) ∙ ap h (same_Some x a at)
flat_at_one h (x ∷ xs) (suc k) a at none =
    ap (λ l. l ++ flat_map h xs) (none 0 x (λ is. cc) refl) ∙ flat_at_one h xs k a at (λ j b apart there. none (suc j) b (λ is. apart (omega (arith, is))) there)

-- one becomes another that has the same
pub flat_same : {A X : Type 0} (h : A → List X) (xs : List A) (k : ℕ) (a b : A) → slice_get xs k ≡ Some a → h b ≡ h a → flat_map h (slice_set xs k b) ≡ flat_map h xs
flat_same h [] k a b at same = refl
flat_same h (x ∷ xs) zero a b at same = ap (λ l. l ++ flat_map h xs) (same ∙ sym (ap h (same_Some x a at)))
flat_same h (x ∷ xs) (suc k) a b at same = ap (λ l. h x ++ l) (flat_same h xs k a b at same)

-- ---- turns

pub turn_own : {S P : Type 0} (c : Colour) (turn : TurnState S P) (hand : Delivery) (puts : List (Put P)) → turn.colour.0 ≡ c.0 → turn_in c (Turning turn hand puts) ≡ record { turn = turn; puts = puts } ∷ []
turn_own {S} {P} c turn hand puts same =
    let out : TurnOut S P = record { turn = turn; puts = puts } in
    ap (λ (b : Bool). if b then out ∷ [] else []) (eq-eqb turn.colour.0 c.0 same)

pub turn_other : {S P : Type 0} (c : Colour) (turn : TurnState S P) (hand : Delivery) (puts : List (Put P)) → turn.colour.0 ≢ c.0 → turn_in c (Turning turn hand puts) ≡ []
turn_other {S} {P} c turn hand puts apart =
    let out : TurnOut S P = record { turn = turn; puts = puts } in
    ap (λ (b : Bool). if b then out ∷ [] else []) (ne_eqb turn.colour.0 c.0 apart)

module _ {S P : Type 0} (c : Colour) (workers : List (WorkerState S P)) (k : ℕ) (w v : WorkerState S P) (here : slice_get workers k ≡ Some w) where
  -- no other worker has a turn of the colour
  abbrev pub IsAlone : Type 0
  IsAlone = (j : ℕ) (u : WorkerState S P) → (j ≡ k → ⊥) → slice_get workers j ≡ Some u → turn_in c u.phase ≡ []

  pub turns_before : IsAlone → turns_of c workers ≡ turn_in c w.phase
  turns_before alone = flat_at_one (λ (x : WorkerState S P). turn_in c x.phase) workers k w here alone

  pub turns_after : IsAlone → turns_of c (slice_set workers k v) ≡ turn_in c v.phase
  turns_after alone =
      flat_at_one (λ (x : WorkerState S P). turn_in c x.phase) (slice_set workers k v) k v (get_set_same workers k w v here)
      (λ j u apart at. alone j u apart (sym (get_set_other workers k j v apart) ∙ at))

  pub turns_stay : turn_in c v.phase ≡ turn_in c w.phase → turns_of c (slice_set workers k v) ≡ turns_of c workers
  turns_stay same = flat_same (λ (x : WorkerState S P). turn_in c x.phase) workers k w v here same

-- ---- a colour as it is seen

-- it is the same where it has the same state, line and registrations
pub seen_equal : {S P : Type 0} (x y : ColourSeen S P) → y.state ≡ x.state → y.line ≡ x.line → y.puts ≡ x.puts → y ≡ x
seen_equal {S} {P} x y state line puts =
    ap (λ (s : Option S). let made : ColourSeen S P = record { state = s; line = y.line; puts = y.puts } in made) state
    ∙ ap (λ (l : List (Carried P)). let made : ColourSeen S P = record { state = x.state; line = l; puts = y.puts } in made) line
    ∙ ap (λ (l : List (Put P)). let made : ColourSeen S P = record { state = x.state; line = x.line; puts = l } in made) puts
