use Rattle.std.proofs.Common.{◌∙◌, ap}
use Rattle.std.specs.Prelude.{slice_get}
use Rattle.mely_kept.specs.Frames.{shard_frame}
use Rattle.mely_fleet.specs.Opening.{AreInitialPasses}
use Rattle.test_fleet.proofs.RowLemmas.{each_but_last}
use Rattle.test_fleet.proofs.tests.calls.last_of.Goals as goal

pub returns-clause-rest : goal.returns-clause-rest
returns-clause-rest c = (each_but_last (λ n own. AreInitialPasses (shard_frame (λ s. tt)) c.args.fleet.now n own) c.pop.new.self.items c.in-Some.own (λ n one is. c.requires n one (ap (λ l. slice_get l n) c.in-Some.ensures.items ∙ is))).0

pub returns-clause-own : goal.returns-clause-own
returns-clause-own c = (each_but_last (λ n own. AreInitialPasses (shard_frame (λ s. tt)) c.args.fleet.now n own) c.pop.new.self.items c.in-Some.own (λ n one is. c.requires n one (ap (λ l. slice_get l n) c.in-Some.ensures.items ∙ is))).1.are

pub returns-clause-number : goal.returns-clause-number
returns-clause-number c = (each_but_last (λ n own. AreInitialPasses (shard_frame (λ s. tt)) c.args.fleet.now n own) c.pop.new.self.items c.in-Some.own (λ n one is. c.requires n one (ap (λ l. slice_get l n) c.in-Some.ensures.items ∙ is))).1.numbered
