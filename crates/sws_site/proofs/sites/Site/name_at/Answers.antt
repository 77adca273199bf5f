use Rattle.std.proofs.Common.{Some, option_map, sym, ap, ◌∙◌, arith}
use Rattle.sws_site.proofs.PlaceLemmas.{stored-count, stored-at}
use Rattle.sws_site.proofs.sites.Site.name_at.Goals as goal

pub index-requires : goal.index-requires
index-requires c = let within = stored-count c.args.self.now c.self.inside.files.items c.self.inside.date c.self.inside.options c.args.i c.self.view_is c.requires in omega (arith, within)

pub returns : goal.returns
returns c =
    ap (option_map (λ file. file.0)) (stored-at c.args.self.now c.self.inside.files.items c.self.inside.date c.self.inside.options c.args.i c.index.result.now c.self.view_is
    (stored-count c.args.self.now c.self.inside.files.items c.self.inside.date c.self.inside.options c.args.i c.self.view_is c.requires) c.index.ensures)
    ∙ ap Some (sym c.deref.ensures.value)
