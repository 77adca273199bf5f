-- Each registered event stands in one place.
use Rattle.std.proofs.Common.{◌≡◌, ℕ, ◌<◌, ◌≤◌, ◌++◌, Some, take, drop, sym, ◌∙◌, ap, arith, ⊎_elim, length-drop, Option}
use Rattle.std.proofs.lemmas.List.{take-append-drop, take-take, nil_from_length, length-take-le}
use Rattle.std.proofs.lemmas.Bool.{cases_lt}
use Rattle.mely_event.specs.declared.colour.Colour.{Colour}
use Rattle.mely_event.specs.declared.event.Event.{Event}
use Rattle.mely_event.specs.declared.trail.Trail.{Ghosts as TrailWords}
use Rattle.mely_history.specs.History.{registered_of, begun_of, ended_of, ran_of, queued_of}
use Rattle.mely_history.proofs.LegalAccountLemmas.{begun_within, ended_within}
use Rattle.mely_shard.specs.Shard.{ShardState, ColourState, IsOwn, IsConsistent, lane_at, StandsOnce}

pub stands_once : {S P F : Type 0} {t : TrailWords S F} {fits : F → Colour → Event → Option P → Type 0} {has : ShardState S P} (c : Colour) (lane : ColourState S P) → IsConsistent t fits has → IsOwn has c → lane_at has c ≡ Some lane → StandsOnce has c lane
stands_once {has = has} c lane kept own is =
    let all = registered_of has.history c in
    let b = begun_of has.history c in
    let e = ended_of has.history c in
    let began = begun_within has.setup has.history c kept.legal in
    let ended = ended_within has.setup has.history c kept.legal in
    let out = drop e (take b all) in
    let front : ran_of has.history c ++ out ≡ take b all = ap (λ xs. xs ++ out) (sym (take-take e b all ended)) ∙ take-append-drop e (take b all) in
    record {
      out = out;
      once = sym (ap (λ es. ran_of has.history c ++ out ++ es) (kept.each c lane own is).events ∙ ap (λ xs. xs ++ queued_of has.history c) front ∙ take-append-drop b all);
      none_out = λ rests.
          let not_less : b ≤ e = not_running e b rests in
          nil_from_length out (length-drop e (take b all) ∙ (let many = length-take-le b all began in omega (arith, many, not_less)));
    } where
      not_running : (e b : ℕ) → ¬ (e < b) → b ≤ e
      not_running e b rests = ⊎_elim (λ (less : e < b). absurd (rests less)) (λ (le : b ≤ e). le) (cases_lt e b)
