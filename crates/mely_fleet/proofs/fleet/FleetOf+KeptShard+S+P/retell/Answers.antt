use Rattle.std.proofs.Common.{◌<◌, sym, ap, subst}
use Rattle.mely_kept_chain.specs.declared.kept_chain.ChainFrame.{ChainFrame}
use Rattle.mely_kept_chain.specs.Chains.{RetellsAt}
use Rattle.mely_kept.specs.Frames.{shard_frame}
use Rattle.mely_fleet.proofs.CallLemmas.{may_enter, numbers_are, are_still, reaches}
use Rattle.mely_fleet.proofs.fleet.FleetOf+KeptShard+S+P.retell.Goals as goal

pub retell_at-is_found-requires-clause-pass : goal.retell_at-is_found-requires-clause-pass
retell_at-is_found-requires-clause-pass g c = may_enter (shard_frame g.S.Trail.frame_of) c.args.self.now c.args.passes.now c.requires.passes c.args.core c.requires.core c.index.result.now c.index.ensures c.index_mut.result.now c.index_mut.ensures.value

pub retell_at-is_found-requires-clause-colour : goal.retell_at-is_found-requires-clause-colour
retell_at-is_found-requires-clause-colour g c = subst (λ n. c.args.colour.0 < n) (sym (ap (λ (f : ChainFrame). f.colours) (numbers_are (shard_frame g.S.Trail.frame_of) c.args.self.now c.args.passes.now c.requires.passes c.args.core c.requires.core c.index.result.now c.index.ensures c.index_mut.result.now c.index_mut.ensures.value))) c.requires.colour

pub returns-clause-passes : goal.returns-clause-passes
returns-clause-passes g c =
    let are = c.requires.passes in
    record {
      of_shards = are.of_shards;
      of_chains = are_still (shard_frame g.S.Trail.frame_of) c.args.self.now c.args.passes.now c.requires.passes c.args.core c.requires.core c.index.result.now c.index.ensures c.index_mut.result.now c.index_mut.ensures.value c.retell_at-is_found.new.pass c.retell_at-is_found.ensures.pass;
      shards_framed = are.shards_framed;
      chains_framed = are.chains_framed;
    }

pub returns-clause-reaches : goal.returns-clause-reaches
returns-clause-reaches g c = reaches (shard_frame g.S.Trail.frame_of) c.args.self.now c.args.passes.now c.requires.passes c.args.core c.requires.core c.index.result.now c.index.ensures c.index_mut.result.now c.index_mut.ensures.value (λ of n. RetellsAt of n c.args.colour c.args.started c.args.worth c.retell_at-is_found.result) c.retell_at-is_found.new.pass c.retell_at-is_found.ensures.does
