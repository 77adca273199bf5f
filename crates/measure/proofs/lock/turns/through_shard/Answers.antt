use Rattle.std.proofs.Common.{◌∙◌, ap, sym}
use Rattle.std.specs.Prelude.{slice_get}
use Rattle.measure.proofs.lock.turns.through_shard.Goals as goal

pub reserve_from_threads-requires-clause-passes : goal.reserve_from_threads-requires-clause-passes
reserve_from_threads-requires-clause-passes g c = λ _ _. record {
  each = λ k own there. (c.in_ok-fleet.ensures.each k own (ap (λ l. slice_get l k) (sym c.deref_mut.ensures.value) ∙ there)).are;
}
