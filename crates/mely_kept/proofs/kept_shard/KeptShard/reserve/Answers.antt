use Rattle.std.proofs.Common.{subst}
use Rattle.mely_shard.specs.Shard.{ShardState, KeepsFrame, KeepsAllButSpare}
use Rattle.mely_kept.proofs.KeepLemmas.{frames_kept, frame_stays, legal_stays}
use Rattle.mely_note.proofs.ShowLemmas.{shows_same}
use Rattle.mely_kept.proofs.kept_shard.KeptShard.reserve.Goals as goal

pub invariant_of-self : goal.invariant_of-self
invariant_of-self g c = (
  frames_kept g.S.Trail.frame_of _ c.self.inside.shard.value c.reserve.new.self (subst (λ (old : ShardState g.row.S.Denot g.row.P.Denot). KeepsFrame old c.reserve.new.self) c.deref_mut.ensures.value c.reserve.ensures.frame) c.self.invariant.0,
  shows_same c.self.inside.shard.value c.reserve.new.self c.self.inside.notes.items c.self.invariant.1 (subst (λ (old : ShardState g.row.S.Denot g.row.P.Denot). KeepsAllButSpare old c.reserve.new.self) c.deref_mut.ensures.value c.reserve.ensures.contents),
  c.self.invariant.2,
)

pub returns-clause-frame : goal.returns-clause-frame
returns-clause-frame g c = rw (← c.self.view_is) (frame_stays g.S.Trail.frame_of c.self.inside.shard.value c.reserve.new.self c.self.inside.notes.items c.self.inside.notes.items _ (subst (λ (old : ShardState g.row.S.Denot g.row.P.Denot). KeepsFrame old c.reserve.new.self) c.deref_mut.ensures.value c.reserve.ensures.frame))

pub returns-clause-legal : goal.returns-clause-legal
returns-clause-legal g c = rw (← c.self.view_is) (legal_stays g.S.Trail g.S.Fits.fits_under c.self.inside.shard.value c.reserve.new.self c.self.inside.notes.items (invariant_of-self g c).1 (subst (λ (old : ShardState g.row.S.Denot g.row.P.Denot). KeepsFrame old c.reserve.new.self) c.deref_mut.ensures.value c.reserve.ensures.frame) c.reserve.ensures.kept)
