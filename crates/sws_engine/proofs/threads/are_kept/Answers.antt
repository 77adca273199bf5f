use Rattle.std.proofs.Common.{◌≡◌, ◌<◌, subst, ⊎_elim, arith}
use Rattle.std.proofs.lemmas.Option.{slice_get_within}
use Rattle.mely_history.proofs.LegalLemmas.{split_below}
use Rattle.mely_weave.proofs.Wholes.GatherLemmas.{element_is}
use Rattle.sws_handlers.specs.Invariant.{IsConsistent}
use Rattle.sws_engine.proofs.threads.are_kept.Goals as goal

pub loop-place-preserved : goal.loop-place-preserved
loop-place-preserved g c = λ number has low there. ⊎_elim
    (λ (before : number < c.loop-place.place-index). c.loop-place.invariant number has before there)
    (λ (here : number ≡ c.loop-place.place-index). subst (IsConsistent g.W.World g.W.Link.Link g.T.Talk) (element_is c.args.places.now number c.loop-place.place-index c.place-item.result has here c.place-item.is there) c.a_state_is_consistent.ensures)
    (split_below number c.loop-place.place-index low)

pub returns : goal.returns
returns g c = λ number has there. c.loop-place.invariant number has (let within = slice_get_within c.args.places.now number has there in omega (arith, within)) there
