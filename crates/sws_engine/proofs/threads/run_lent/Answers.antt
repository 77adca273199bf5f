use Rattle.std.proofs.Common.{◌≡◌, Result, Ok, Err, IfOk, [], ◌∷◌, sym, ap, subst, ◌∙◌}
use Rattle.std.specs.Prelude.{slice_get}
use Rattle.mely_chain.specs.WeaveTold.{IsTold}
use Rattle.mely_history.specs.declared.setup.Setup.{Setup}
use Rattle.mely_weave.specs.declared.draining.Drained.{Drained}
use Rattle.mely_weave.specs.declared.draining.Drained.TheVariants as drained
use Rattle.mely_weave.specs.Drains.{AllFree, HistoriesAreDrained}
use Rattle.mely_weave.specs.Weave.{WeaveState}
use Rattle.sws_weave.specs.Begins.{IsAtRest}
use Rattle.mely_crew.specs.Crew.{RanBehind}
use Rattle.sws_engine.proofs.threads.run_lent.Goals as goal

pub run_crew-requires-clause-fits : goal.run_crew-requires-clause-fits
run_crew-requires-clause-fits g c = λ _ _ state at. c.requires.fits state (ap (λ v. slice_get v.items 0) (sym c.replace-given.ensures.value) ∙ at)

pub run_crew-requires-clause-served : goal.run_crew-requires-clause-served
run_crew-requires-clause-served g c = λ _ _ state at. c.requires.served state (ap (λ v. slice_get v.items 0) (sym c.replace-given.ensures.value) ∙ at)

rests_of : {S P E : Type 0} (setup : Setup) (result : Result (WeaveState S P × Drained) E) → IfOk result (λ ran. ran.0.setup ≡ setup) → IfOk result (λ ran. AllFree ran.0) → IfOk result (λ ran. ran.1 ≡ drained.Empty → HistoriesAreDrained ran.0) → IfOk result (λ ran. IsAtRest setup ran.0 ran.1)
rests_of setup (Ok ran) same free drained = record { of_setup = same; free = free; drained = drained }
rests_of setup (Err refused) same free drained = same

pub returns-clause-told : goal.returns-clause-told
returns-clause-told g c =
    subst (λ v. IfOk c.run_crew.result (λ ran. IsTold g.S.Trail g.S.Fits.fits_under g.A.App c.args.app.now (λ k. slice_get v.items k.0) (c.args.begin ∷ []) ran.0)) c.replace-given.ensures.value c.run_crew.ensures.told

pub returns-clause-rests : goal.returns-clause-rests
returns-clause-rests g c = let ran = c.run_crew.ensures in rests_of c.args.setup.now c.run_crew.result ran.of_setup ran.free ran.drained

pub returns-clause-gated : goal.returns-clause-gated
returns-clause-gated g c =
    subst (λ v. IfOk c.run_crew.result (λ ran. RanBehind g.S.Trail g.S.Fits.fits_under g.A.App c.args.app.now (g.G.Gate.passes c.args.gate.now) (λ k. slice_get v.items k.0) (c.args.begin ∷ []) ran.1 ran.0)) c.replace-given.ensures.value c.run_crew.ensures.gated
