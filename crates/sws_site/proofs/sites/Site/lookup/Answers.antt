use Rattle.std.proofs.Common.{◌≡◌, length, get_or, subst, arith, sym, ◌∙◌, ap}
use Rattle.sws_site.specs.Stored.{HasHeads, file_of, files_of}
use Rattle.sws_site.specs.declared.stored.StoredFile.{StoredFile}
use Rattle.sws_site.proofs.FileLemmas.{file_named-short}
use Rattle.sws_site.proofs.PlaceLemmas.{place_from-some, place_from-none, found_in-some, found_in-none}
use Rattle.sws_site.proofs.sites.Site.lookup.Goals as goal

pub returns-in-None : goal.returns-in-None
returns-in-None c = found_in-none c.args.self.now c.self.inside.files.items c.self.inside.date c.self.inside.options c.args.name.now c.self.view_is
    (place_from-none c.self.inside.files.items 0 c.args.name.now (sym (c.in-None.ensures.value ∙ c.self.invariant.places c.args.name.now)))

pub returns-in-Some : goal.returns-in-Some
returns-in-Some c =
    let found = place_from-some c.self.inside.files.items 0 c.in-Some.place.now c.args.name.now (sym (c.in-Some.ensures.value ∙ c.self.invariant.places c.args.name.now)) in
    found_in-some c.args.self.now c.self.inside.files.items c.self.inside.date c.self.inside.options found.0 c.index.result.now c.args.name.now c.self.view_is
    (c.index.ensures ∙ ap (λ n. get_or c.self.inside.files.items n c.index.result.now) (let e : c.in-Some.place.now ≡ found.0 = (let s = found.1 in omega arith) in e)) (found.3 c.index.result.now)

pub index-requires : goal.index-requires
index-requires c =
    let found = place_from-some c.self.inside.files.items 0 c.in-Some.place.now c.args.name.now (sym (c.in-Some.ensures.value ∙ c.self.invariant.places c.args.name.now)) in
    omega (arith, found.1, found.2)

pub invariant_of-result : goal.invariant_of-result
invariant_of-result c =
    let found = place_from-some c.self.inside.files.items 0 c.in-Some.place.now c.args.name.now (sym (c.in-Some.ensures.value ∙ c.self.invariant.places c.args.name.now)) in
    record {
      heads = subst (HasHeads c.self.inside.options c.self.inside.date) (sym c.index.ensures)
          (c.self.invariant.heads c.in-Some.place.now c.index.result.now (omega (arith, found.1, found.2)));
      not_modified = c.self.invariant.not_modified;
      no_content = c.self.invariant.no_content;
      short =
          let file = c.index.result.now in
          let files = c.self.inside.files.items in
          let place : c.in-Some.place.now ≡ found.0 = (let s = found.1 in omega arith) in
          let same = ap (λ (f : StoredFile). length (file_of f).1) (c.index.ensures ∙ ap (λ n. get_or files n file) place) in
          omega (arith, same, file_named-short (files_of files) c.args.name.now (file_of (get_or files found.0 file)) (found.3 file), c.self.invariant.limits.bytes);
    }
