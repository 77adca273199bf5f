use Rattle.std.proofs.Common.{◌≡◌, Some, ◌≤◌, ◌<◌, ap, sym, ◌∙◌, refl, arith}
use Rattle.std.specs.Prelude.{slice_get}
use Rattle.mely_history.specs.Setup.{shape_of}
use Rattle.mely_history.specs.Legal.{MayRegister}
use Rattle.mely_worker.specs.Access.{FitsSetup}
use Rattle.mely_worker.specs.Worker.{WorkerState}
use Rattle.mely_weave.specs.Side.{SideState, side_at}
use Rattle.mely_weave.specs.SideStands.{SideStands}
use Rattle.mely_weave.specs.StandsWell.{StandsWell}
use Rattle.mely_weave.specs.Steps.{with_workers}
use Rattle.mely_weave.proofs.Lines.PostLemmas.{PostKeeps, post_keeps, post_stands, some_first}
use Rattle.mely_weave.proofs.weave.Weave.post.Goals as goal

-- there is a core
low : (g : _) (c : goal.After-post g) → 0 < (shape_of c.self.inside.shared.setup).cores
low g c = let some : 1 ≤ (shape_of c.self.inside.shared.setup).cores = c.self.inside.shared.setup.cores_in.0 in omega (arith, some)

-- what is posted fits
fit : (g : _) (c : goal.After-post g) → FitsSetup g.S.Fits.fits_under c.self.inside.shared.setup (g.S.Trail.frame_of c.self.inside.shared.given) (c.args.colour, c.args.event, c.args.load)
fit g c = rw (← c.self.view_is) at c.requires.fits

may : (g : _) (c : goal.After-post g) → MayRegister c.self.inside.shared.setup c.args.colour c.args.event
may g c = let fits = fit g c in record { colour = fits.colour; handler = fits.handler }

-- the worker of the first core
first : (g : _) (c : goal.After-post g) → (w : WorkerState g.row.S.Denot g.row.P.Denot) × (slice_get c.self.inside.workers.items 0 ≡ Some w)
first g c = some_first c.self.inside.workers.items _ c.self.invariant.0.workers (low g c)

-- what the post keeps
keeps : (g : _) (c : goal.After-post g) → PostKeeps g.S.Trail g.S.Fits.fits_under (with_workers (side_at c.self.inside.shared 0) c.self.inside.workers.items) c.self.invariant.0 (first g c).0 (first g c).1 (low g c) c.args.colour c.args.event c.args.load (may g c) c.post.result (side_at c.post.new.self 0)
keeps g c = post_keeps g.S.Trail g.S.Fits.fits_under (with_workers (side_at c.self.inside.shared 0) c.self.inside.workers.items) c.self.invariant.0 (first g c).0 (first g c).1 (low g c) c.args.colour c.args.event c.args.load (may g c) (SideStands g.S.Trail g.S.Fits.fits_under) c.post.result (side_at c.post.new.self 0) c.post.ensures.posts

-- so all stands well after it
stands : (g : _) (c : goal.After-post g) → StandsWell g.S.Trail g.S.Fits.fits_under (with_workers (side_at c.post.new.self 0) c.self.inside.workers.items)
stands g c =
    post_stands g.S.Trail g.S.Fits.fits_under (with_workers (side_at c.self.inside.shared 0) c.self.inside.workers.items) c.self.invariant.0 (first g c).0 (first g c).1 (low g c) c.args.colour c.args.event c.args.load (may g c) (SideStands g.S.Trail g.S.Fits.fits_under) c.post.result (side_at c.post.new.self 0) c.post.ensures.posts c.post.ensures.stands

pub invariant_of-self : goal.invariant_of-self
invariant_of-self g c =
    (stands g c, c.self.invariant.1 ∙ sym (ap (λ (s : SideState _ _). s.setup) (keeps g c).becomes))

pub returns-clause-stands : goal.returns-clause-stands
returns-clause-stands g c = stands g c

pub returns-clause-call : goal.returns-clause-call
returns-clause-call g c =
    rw (← c.self.view_is) (record { may = fit g c; posts = record { side = (side_at c.post.new.self 0); posts = (keeps g c).posts; leaves = refl }; parts = c.post.ensures.stands })

pub returns-clause-same : goal.returns-clause-same
returns-clause-same g c =
    rw (← c.self.view_is) (record { setup = ap (λ (s : SideState _ _). s.setup) (keeps g c).becomes; given = ap (λ (s : SideState _ _). s.given) (keeps g c).becomes })
