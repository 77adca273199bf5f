use Rattle.std.proofs.Common.{◌≡◌, ◌∙◌, true, refl, sym, subst}
use Rattle.std.specs.Prelude.{◌↔◌}
use Rattle.mely_worker.specs.IdleWorker.{resumed_worker}
use Rattle.mely_fleet.specs.declared.working.Worked.TheVariants.{Memory}
use Rattle.mely_worker.specs.Gated.{behind}
use Rattle.mely_fleet.specs.Work.{MakesOn}
use Rattle.mely_fleet.proofs.SeatLemmas.{seat_may, seat_back}
use Rattle.mely_fleet.proofs.seat.FleetOf+KeptShard+S+P.work_at.Goals as goal

pub work-worked-requires-clause-may : goal.work-worked-requires-clause-may
work-worked-requires-clause-may g c =
    seat_may g.S.Trail g.S.Fits.fits_under c.args.self.now c.args.seat.now.passes c.args.seat.now.worker c.in-Some.rested c.wake-worker.result c.requires.seat (sym c.take.ensures.value ∙ c.in-Some.is) c.wake-worker.ensures

pub returns-clause-seat : goal.returns-clause-seat
returns-clause-seat g c =
    seat_back g.S.Trail g.S.Fits.fits_under c.args.self.now c.args.seat.now.passes c.work-worked.new.passes c.args.seat.now.worker c.in-Some.rested c.rest.result c.wake-worker.result c.work-worked.new.worker c.requires.seat (sym c.take.ensures.value ∙ c.in-Some.is) c.wake-worker.ensures
    c.work-worked.ensures.worked c.work-worked.ensures.free c.rest.ensures

pub returns-clause-made : goal.returns-clause-made
returns-clause-made g c =
    record {
      rest = c.in-Some.rested;
      rested = sym c.take.ensures.value ∙ c.in-Some.is;
      again = c.rest.result;
      rests = refl;
      makes = subst (λ v. MakesOn g.S.Trail g.S.Fits.fits_under (behind g.S.Trail (g.G.Gate.passes c.args.gate.now c.args.seat.now.passes.number) g.A.App) c.args.app.now c.args.self.now c.args.seat.now.passes (resumed_worker c.in-Some.rested) c.work-worked.new.passes v) (sym c.rest.ensures)
          (subst (λ w. MakesOn g.S.Trail g.S.Fits.fits_under (behind g.S.Trail (g.G.Gate.passes c.args.gate.now c.args.seat.now.passes.number) g.A.App) c.args.app.now c.args.self.now c.args.seat.now.passes w c.work-worked.new.passes c.work-worked.new.worker) c.wake-worker.ensures c.work-worked.ensures.makes);
    }

pub returns-clause-memory : goal.returns-clause-memory
returns-clause-memory g c = subst (λ v. (c.work-worked.result ≡ Memory) ↔ (v.halted ≡ true)) (sym c.rest.ensures) c.work-worked.ensures.memory
