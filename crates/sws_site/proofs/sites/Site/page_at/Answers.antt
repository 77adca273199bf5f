use Rattle.std.proofs.Common.{refl, sym, subst, ap, arith}
use Rattle.sws_site.specs.Stored.{HasHeads, file_of, files_of}
use Rattle.sws_site.proofs.FileLemmas.{file_at-short}
use Rattle.sws_site.proofs.PlaceLemmas.{stored-count, stored-at}
use Rattle.sws_site.proofs.sites.Site.page_at.Goals as goal

pub index-requires : goal.index-requires
index-requires c = let within = stored-count c.args.self.now c.self.inside.files.items c.self.inside.date c.self.inside.options c.args.i c.self.view_is c.requires in omega (arith, within)

pub invariant_of-result : goal.invariant_of-result
invariant_of-result c =
    let files = c.self.inside.files.items in
    let stored = c.index.result.now in
    let within = stored-count c.args.self.now files c.self.inside.date c.self.inside.options c.args.i c.self.view_is c.requires in
    record {
      heads = subst (HasHeads c.self.inside.options c.self.inside.date) (sym c.index.ensures) (c.self.invariant.heads c.args.i stored within);
      not_modified = c.self.invariant.not_modified;
      no_content = c.self.invariant.no_content;
      short =
          let at = stored-at (record { files = files_of files; date = c.self.inside.date; options = c.self.inside.options }) files c.self.inside.date c.self.inside.options c.args.i stored refl within c.index.ensures in
          omega (arith, file_at-short (files_of files) c.args.i (file_of stored) at, c.self.invariant.limits.bytes);
    }

pub returns-clause-file : goal.returns-clause-file
returns-clause-file c =
    stored-at c.args.self.now c.self.inside.files.items c.self.inside.date c.self.inside.options c.args.i c.index.result.now c.self.view_is
    (stored-count c.args.self.now c.self.inside.files.items c.self.inside.date c.self.inside.options c.args.i c.self.view_is c.requires) c.index.ensures

pub returns-clause-date : goal.returns-clause-date
returns-clause-date c = ap (λ site. site.date) c.self.view_is

pub returns-clause-options : goal.returns-clause-options
returns-clause-options c = ap (λ site. site.options) c.self.view_is
