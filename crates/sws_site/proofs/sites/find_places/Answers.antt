use Rattle.std.proofs.Common.{◌-◌, arith, sym, ◌∙◌, ap}
use Rattle.sws_site.specs.declared.stored.StoredFile.{StoredFile}
use Rattle.sws_site.proofs.PlaceLemmas.{places-insert}
use Rattle.sws_site.proofs.sites.find_places.Goals as goal

pub files-preserved : goal.files-preserved
files-preserved c = record {
  within = omega arith;
  places = λ name. places-insert c.args.files.now (c.files.start - 1) c.files.start c.index-files-start.result name
      c.files.places.entries c.insert.new.self.entries c.in_ok-name.name (omega arith)
      (omega arith) (sym c.index-files-start.is) (c.in_ok-name.ensures.items ∙ c.deref.ensures.value ∙ ap (λ (file : StoredFile). file.name.items) (sym c.index-files-start.is))
      c.in_ok-insert.ensures.entries (c.files.invariant.places name);
}
