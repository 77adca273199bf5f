-- A whole run of a weave whose app is told by a function is the machine's.
use Rattle.std.proofs.Common.{◌≡◌, List, ◌∷◌, refl, sym, ap, subst, ◌∙◌, All, Bool, false}
use Rattle.std.specs.Prelude.{ℕ, Option, IsPermutation}
use Rattle.std.proofs.lemmas.List.Sorted.{IsPermutation-cons, IsPermutation-trans}
use Rattle.mely_event.specs.declared.colour.Colour.{Colour}
use Rattle.mely_event.specs.declared.event.Event.{Event}
use Rattle.mely_event.specs.declared.trail.Trail.{Ghosts as TrailWords}
use Rattle.mely_history.specs.declared.setup.Setup.{Setup}
use Rattle.mely_history.specs.declared.entry.Entry.{Entry}
use Rattle.mely_worker.specs.declared.app.App.{Ghosts as AppWords}
use Rattle.mely_worker.specs.declared.delivery.Delivery.{Delivery}
use Rattle.mely_worker.specs.declared.delivery.Delivery.TheVariants.{Nothing, PushMark, Report}
use Rattle.mely_history.specs.Schedules.{spelled_out}
use Rattle.mely_machine.specs.Rules.{Rules, rules_of}
use Rattle.mely_machine.specs.Machine.{Acts, Machine}
use Rattle.mely_machine.specs.MachineRun.{initial_machine, delivers, post, steps, rounds, RunsTo}
use Rattle.mely_run.specs.Corresponds.{Corresponds}
use Rattle.mely_run.specs.Pieces.{Piece, event_piece, pieces, IsTold}
use Rattle.mely_run.specs.Pieces.{kept_from}
use Rattle.mely_run.specs.WholeRuns.{IsWholeRun}
use Rattle.mely_run.proofs.Pieces.FirstLemmas.{first_pieces}
use Rattle.mely_run.proofs.Pieces.PostedLemmas.{post_pieces}
use Rattle.mely_run.proofs.Pieces.LastLemmas.{none_spoilt}
use Rattle.mely_run.proofs.Runs.RunLemmas.{Stands, run_on, rounds_on, drain_is}
use Rattle.mely_run.proofs.Runs.StartLemmas.{first_corresponds, post_corresponds}

-- what the app is stays in a post
delivers_keep : {X : Type 0} (rules : Rules) (d : Delivery) (m : Machine X) → (delivers rules d m).app ≡ m.app
delivers_keep rules Nothing m = refl
delivers_keep rules (PushMark to mark) m = refl
delivers_keep rules (Report to c started worth) m = refl

post_keeps : {X : Type 0} (rules : Rules) (c : Colour) (event : Event) (m : Machine X) → (post rules c event m).app ≡ m.app
unfolding post
post_keeps rules c event m = delivers_keep rules _ _

-- what the app has at first and what is posted agree with what it is, so the histories are
-- those of the machine's run
pub told_whole : {S P F R X : Type 0} {t : TrailWords S F} {fits : F → Colour → Event → Option P → Type 0} {y : AppWords R P S F} {app : R} {setup : Setup} {states : List S} {c : Colour} {event : Event} {load : Option P} {schedule : List (ℕ × ℕ)} {histories : List (List Entry)} {left : List S}
    → (frame : F) (act : Acts X) (Agrees : X → List (Piece S P) → Type 0) (spoilt : S → Bool) → IsTold t fits y app frame act Agrees spoilt → (x : X) → (whole : IsWholeRun t fits y app setup states c event load schedule histories left)
    → t.frame_of whole.posted.given ≡ frame → Agrees x (event_piece c event load ∷ kept_from 0 states) → All (λ state. spoilt state ≡ false) left → RunsTo (rules_of setup) act x (c, event) schedule histories
told_whole {S = S} {P = P} {X = X} {t = t} {fits} {y} {app} {setup} {states} {c} {event} {load} {schedule} {histories} {left} frame act Agrees spoilt is_told x whole framed agrees fine =
    let rules : Rules = rules_of setup in
    let ruled : rules_of whole.begun.first.setup ≡ rules = ap rules_of whole.begun.made.of_setup in
    let order : IsPermutation (event_piece c event load ∷ kept_from 0 states) (pieces whole.posted) =
    IsPermutation-trans (event_piece c event load ∷ kept_from 0 states) (event_piece c event load ∷ pieces whole.begun.first) (pieces whole.posted)
    (IsPermutation-cons (event_piece c event load) (kept_from 0 states) (pieces whole.begun.first) (first_pieces t fits setup states whole.begun.first whole.begun.made whole.begun.well whole.begun.all))
    (post_pieces t fits whole.begun.first whole.posted whole.begun.well c event load whole.begun.reply whole.begun.posts) in
    let at_post : Machine X = post rules c event (initial_machine rules x) in
    let after_post : Corresponds whole.posted at_post =
    subst (λ (r : Rules). Corresponds whole.posted (post r c event (initial_machine r x))) ruled
    (post_corresponds t fits whole.begun.first whole.begun.well (initial_machine (rules_of whole.begun.first.setup) x) (first_corresponds t fits setup states whole.begun.first x whole.begun.made whole.begun.well) c event load whole.posted whole.begun.reply whole.begun.posts) in
    let started : Stands t fits y app frame act Agrees spoilt is_told rules whole.posted at_post = record {
      ready = record { well = whole.begun.well_posted; framed = framed; ruled = ap rules_of whole.begun.same.setup ∙ ruled; going = after_post.going };
      one = λ none. record {
        corresponds = after_post;
        agrees = subst (λ (z : X). Agrees z (pieces whole.posted)) (sym (post_keeps rules c event (initial_machine rules x))) (is_told.moved x (event_piece c event load ∷ kept_from 0 states) (pieces whole.posted) order agrees);
      };
    } in
    let scheduled = run_on t fits y app frame act Agrees spoilt is_told rules (spelled_out schedule) whole.posted whole.out.ran at_post started whole.out.runs in
    let ran : Machine X = steps rules act (spelled_out schedule) at_post in
    let rest = whole.out.drains in
    let ended = rounds_on t fits y app frame act Agrees spoilt is_told rules rest.0 whole.out.ran whole.end ran scheduled.stands rest.1 rest.2 in
    let none = none_spoilt t fits whole.end whole.out.well rest.3 left whole.states_left spoilt fine in
    record {
      end = rounds rules act rest.0 ran;
      drains = drain_is t fits y app frame act Agrees spoilt is_told rules rest.0 whole.out.ran whole.end ran scheduled.stands rest.1 rest.2 rest.3 none;
      told = whole.told ∙ sym (ended.on.stands.one none).corresponds.shown.entered;
    }
