-- Where the first file of a name is kept.
use Rattle.std.proofs.Common.{◌≡◌, ℕ, ◌+◌, ◌<◌, subst, suc, Bool, true, false, List, [], ◌∷◌, length, drop, get_or, refl, sym, ap, ◌∙◌, Option, Some, None, Vec, drop-cons, arith}
use Rattle.std.proofs.Math.Bool.{cond}
use Rattle.std.specs.declared.alloc.Global.{Global}
use Rattle.std.specs.Str.{bytes_eq}
use Rattle.std.specs.Map.{lookup}
use Rattle.std.specs.BTreeMap.{insert_entry}
use Rattle.sws_site.specs.declared.stored.StoredFile.{StoredFile}
use Rattle.httpdate.specs.declared.date.HttpDate.{HttpDate}
use Rattle.sws_site.specs.declared.options.SiteOptions.{SiteOptions}
use Rattle.std.specs.Prelude.{option_map, slice_get, not, if◌then◌else◌}
use Rattle.std.proofs.lemmas.List.{length-map}
use Rattle.std.proofs.lemmas.Option.{slice_get-map, slice_get_read}
use Rattle.sws_site.proofs.NameLemmas.{compare_keys, has_name, has_name-bytes, lookup-insert_entry}
use Rattle.sws_site.specs.Files.{File, file_named}
use Rattle.sws_site.specs.Site.{SiteState, found_in}
use Rattle.sws_site.specs.Page.{PageState}
use Rattle.sws_site.specs.Stored.{place_from, files_of, file_of}

abbrev pub Entries : Type 0
Entries = List (Vec ℕ Global × ℕ)

-- one file more at the front
pub places-insert : (files : List StoredFile) (start after : ℕ) (file : StoredFile) (name : List ℕ) (old new : Entries) (key : Vec ℕ Global)
    → start < length files → after ≡ suc start → get_or files start file ≡ file → key.items ≡ file.name.items
    → new ≡ insert_entry compare_keys old key start
    → lookup (has_name name) old ≡ place_from after name (drop after files)
    → lookup (has_name name) new ≡ place_from start name (drop start files)
places-insert files start after file name old new key within next is named inserted was =
    ap (lookup (has_name name)) inserted
    ∙ lookup-insert_entry name old key start
    ∙ ap (λ b. cond b (Some start) (lookup (has_name name) old)) (has_name-bytes name key ∙ ap (λ items. bytes_eq items name) named)
    ∙ ap (λ rest. cond (bytes_eq file.name.items name) (Some start) rest) (was ∙ ap (λ n. place_from n name (drop n files)) next)
    ∙ sym (ap (place_from start name) (drop-cons files start file within ∙ ap (λ f. f ∷ drop (suc start) files) is))

-- the place is that of the first file of the name
pub place_from-some : (files : List StoredFile) (start place : ℕ) (name : List ℕ) → place_from start name files ≡ Some place
    → (k : ℕ) × (place ≡ start + k) × (k < length files) × ((d : StoredFile) → file_named name (files_of files) ≡ Some (file_of (get_or files k d)))
place_from-some [] start place name e = absurd (cc)
place_from-some (file ∷ files) start place name e = by_test (bytes_eq file.name.items name) e (λ later. place_from-some files (suc start) place name later)
  where
    by_test : (t : Bool) → cond t (Some start) (place_from (suc start) name files) ≡ Some place
        → (place_from (suc start) name files ≡ Some place → (k : ℕ) × (place ≡ suc start + k) × (k < length files) × ((d : StoredFile) → file_named name (files_of files) ≡ Some (file_of (get_or files k d))))
        → (k : ℕ) × (place ≡ start + k) × (k < suc (length files)) × ((d : StoredFile) → cond t (Some (file_of file)) (file_named name (files_of files)) ≡ Some (file_of (get_or (file ∷ files) k d)))
    by_test true here later = (0, (let same : start ≡ place = cc in omega arith), omega arith, λ d. refl)
    by_test false there later =
        let found = later there in
        (suc found.0, (let e = found.1 in omega arith), (let l = found.2 in omega arith), λ d. found.3 d)

pub place_from-none : (files : List StoredFile) (start : ℕ) (name : List ℕ) → place_from start name files ≡ None → file_named name (files_of files) ≡ None
place_from-none [] start name e = refl
place_from-none (file ∷ files) start name e = by_test (bytes_eq file.name.items name) e (λ later. place_from-none files (suc start) name later)
  where
    by_test : (t : Bool) → cond t (Some start) (place_from (suc start) name files) ≡ None
        → (place_from (suc start) name files ≡ None → file_named name (files_of files) ≡ None)
        → cond t (Some (file_of file)) (file_named name (files_of files)) ≡ None
    by_test true here later = absurd (cc)
    by_test false there later = later there

abbrev page_of : Option HttpDate → SiteOptions → File → PageState
page_of date options file = record { file = file; date = date; options = options }

pub found_in-some : (site : SiteState) (files : List StoredFile) (date : Option HttpDate) (options : SiteOptions) (k : ℕ) (stored : StoredFile) (name : List ℕ)
    → record { files = files_of files; date = date; options = options } ≡ site → stored ≡ get_or files k stored
    → file_named name (files_of files) ≡ Some (file_of (get_or files k stored))
    → Some (page_of date options (file_of stored)) ≡ found_in site name
found_in-some site files date options k stored name shows at found =
    ap (λ (s : StoredFile). Some (page_of date options (file_of s))) at
    ∙ ap (option_map (page_of date options)) (sym found)
    ∙ ap (λ (s : SiteState). found_in s name) shows

pub found_in-none : (site : SiteState) (files : List StoredFile) (date : Option HttpDate) (options : SiteOptions) (name : List ℕ)
    → record { files = files_of files; date = date; options = options } ≡ site → file_named name (files_of files) ≡ None
    → None ≡ found_in site name
found_in-none site files date options name shows none =
    ap (option_map (page_of date options)) (sym none) ∙ ap (λ (s : SiteState). found_in s name) shows

-- ---- the page for names that no file has

-- the page of a site that sends it
pub sends-kept : (sends : Bool) (found : Option File) → not sends ≡ false → found ≡ (if sends then found else None)
sends-kept true found e = refl
sends-kept false found e = absurd (cc)

-- ---- the files by their numbers

-- as many files are stored as are shown
pub stored-count : (site : SiteState) (files : List StoredFile) (date : Option HttpDate) (options : SiteOptions) (i : ℕ)
    → record { files = files_of files; date = date; options = options } ≡ site → i < length site.files → i < length files
stored-count site files date options i shows within =
    subst (λ n. i < n) (sym (ap (λ (s : SiteState). length s.files) shows) ∙ length-map files file_of) within

-- the file that is stored there is shown there
pub stored-at : (site : SiteState) (files : List StoredFile) (date : Option HttpDate) (options : SiteOptions) (i : ℕ) (stored : StoredFile)
    → record { files = files_of files; date = date; options = options } ≡ site → i < length files → stored ≡ get_or files i stored
    → slice_get site.files i ≡ Some (file_of stored)
stored-at site files date options i stored shows within at =
    sym (ap (λ (s : SiteState). slice_get s.files i) shows)
    ∙ slice_get-map file_of files i
    ∙ ap (option_map file_of) (slice_get_read files (length files) i stored refl within at)
