use Rattle.std.proofs.Common.{◌∙◌, ap}
use Rattle.mely_shard.specs.Shard.{givens}
use Rattle.mely_kept.proofs.GivenLemmas.{all_rest, states_are_given}
use Rattle.mely_kept.proofs.kept_shard.KeptShard.into_givens.Goals as goal

pub into_parts-states-requires : goal.into_parts-states-requires
into_parts-states-requires g c =
    all_rest g.S.Trail g.S.Fits.fits_under c.into_shard-shard.result c.args.self.notes c.requires c.history-entries.ensures.kept c.into_shard-shard.ensures.shown

pub returns : goal.returns
returns g c =
    states_are_given g.S.Trail g.S.Fits.fits_under c.into_shard-shard.result c.args.self.notes c.requires c.history-entries.ensures.kept c.into_shard-shard.ensures.shown c.into_parts-states.result.1.items c.into_parts-states.ensures.states ∙ ap givens c.into_shard-shard.ensures.shard
