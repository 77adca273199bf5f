use Rattle.std.proofs.Common.{◌≡◌, Some, not, get_or, sym, ap, ◌∙◌, arith}
use Rattle.sws_site.specs.declared.stored.StoredFile.{StoredFile}
use Rattle.sws_site.specs.Files.{file_named}
use Rattle.sws_site.specs.Fixed.{not_found_name}
use Rattle.sws_site.specs.Stored.{file_of, files_of}
use Rattle.sws_site.proofs.PlaceLemmas.{place_from-some, place_from-none, sends-kept}
use Rattle.sws_site.proofs.sites.not_found_page.Goals as goal

pub offset_bounds-files-place : goal.offset_bounds-files-place
offset_bounds-files-place c =
    let found = place_from-some c.args.files.now 0 c.in-Some.place.now not_found_name (sym (c.in-Some.ensures.value ∙ c.requires not_found_name)) in
    omega (arith, found.1, found.2)

pub bounds-files-place : goal.bounds-files-place
bounds-files-place c =
    let found = place_from-some c.args.files.now 0 c.in-Some.place.now not_found_name (sym (c.in-Some.ensures.value ∙ c.requires not_found_name)) in
    omega (arith, found.1, found.2)

pub returns-in-Some : goal.returns-in-Some
returns-in-Some c =
    let files = c.args.files.now in
    let file = c.index-files-place.result in
    let found = place_from-some files 0 c.in-Some.place.now not_found_name (sym (c.in-Some.ensures.value ∙ c.requires not_found_name)) in
    let place : c.in-Some.place.now ≡ found.0 = (let s = found.1 in omega arith) in
    ap (λ (f : StoredFile). Some (file_of f)) (c.index-files-place.is ∙ ap (λ n. get_or files n file) place)
    ∙ sym (found.3 file)
    ∙ sends-kept c.args.options.now.sends_not_found_page (file_named not_found_name (files_of files)) (ap not c.if-not-options.false)

pub returns-in-None : goal.returns-in-None
returns-in-None c =
    let files = c.args.files.now in
    sym (place_from-none files 0 not_found_name (sym (c.in-None.ensures.value ∙ c.requires not_found_name)))
    ∙ sends-kept c.args.options.now.sends_not_found_page (file_named not_found_name (files_of files)) (ap not c.if-not-options.false)
