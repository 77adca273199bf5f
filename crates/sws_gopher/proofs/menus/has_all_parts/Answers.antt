use Rattle.std.proofs.Common.{rules}
use Rattle.std.proofs.lemmas.Iterator.Splits.{YieldsList-from_slice_split}
use Rattle.std.proofs.lemmas.Iterator.Search.{all_from_yields_List}
use Rattle.sws_gopher.specs.Menus.{is_slash, is_part}
use Rattle.sws_gopher.proofs.menus.has_all_parts.Goals as goal

pub returns : goal.returns
returns c = all_from_yields_List is_part _ _ c.all.result c.all.ensures.ran
    (YieldsList-from_slice_split _ is_slash c.args.name.now c.split.ensures.rest c.split.ensures.done c.split.ensures.closure (λ x r q k. search (rules)))
    (λ x b q k. search (rules))
