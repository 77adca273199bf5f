-- The files of a site as they are stored, and where the first file of each name stands.
use Rattle.std.specs.Prelude.{◌≡◌, ℕ, List, suc, map, All, if◌then◌else◌, Option, Some, None, Vec, [], ◌∷◌, Result, Ok, Err}
use Rattle.std.specs.Str.{bytes_eq}
use Rattle.std.specs.Ordering.{nat_cmp}
use Rattle.std.specs.Cmp.Lexicographic.{slice_cmp}
use Rattle.std.specs.BTreeMap.{BTreeMap, get_by}
use Rattle.std.specs.declared.alloc.Global.{Global}
use Rattle.httpdate.specs.declared.date.HttpDate.{HttpDate}
use Rattle.sws_link.specs.Told.{FolderContents}
use Rattle.sws_site.specs.declared.site_faults.SiteFault.{SiteFault}
use Rattle.sws_site.specs.declared.statuses.Status.TheVariants.{Success, NotModified}
use Rattle.sws_site.specs.declared.options.SiteOptions.{SiteOptions}
use Rattle.sws_site.specs.declared.stored.StoredFile.{StoredFile}
use Rattle.sws_site.specs.declared.built_responses.BuiltResponse.{BuiltResponse}
use Rattle.sws_site.specs.ContentTypes.{media_type_of}
use Rattle.sws_site.specs.Ages.{age_of}
use Rattle.sws_site.specs.Files.{File}
use Rattle.sws_site.specs.Loading.{Loads}
use Rattle.sws_site.specs.BuiltResponses.{IsBuilt}
use Rattle.sws_site.specs.Folders.{redirects_to, folder_path}
use Rattle.sws_site.specs.Redirects.{HasRedirect}

-- the name and the contents
abbrev pub file_of : StoredFile → File
file_of stored = (stored.name.items, stored.response.body.items)

-- the files as contracts see them
abbrev pub files_of : List StoredFile → List File
files_of stored = map file_of stored

-- of a file of this name: the response that it was not modified, where it has an age of its own;
-- else that of all others stands for it
abbrev pub HasNotModified
    : SiteOptions → Option HttpDate → List ℕ → Option BuiltResponse → Type 0
HasNotModified options date name None = age_of options name ≡ options.added.max_age
HasNotModified options date name (Some response) =
    IsBuilt options NotModified (age_of options name) date [] response
    × (response.body.items ≡ [])

-- its heads are those of a site with these options and of this date, and so is its redirect
pub record HasHeads (options : SiteOptions) (date : Option HttpDate) (stored : StoredFile)
    : Type 0 where
  pub response
      : IsBuilt options Success (age_of options stored.name.items) date
      (media_type_of options stored.name.items) stored.response
  pub max_age : stored.max_age ≡ age_of options stored.name.items
  pub not_modified : HasNotModified options date stored.name.items stored.not_modified
  pub redirect
      : HasRedirect options (redirects_to options stored.name.items) (folder_path stored.name.items)
      stored.redirect

-- the heads of all files are
abbrev pub AllHaveHeads : SiteOptions → Option HttpDate → List StoredFile → Type 0
AllHaveHeads options date files = All (HasHeads options date) files

-- `Loads` of the files as they are stored
abbrev pub LoadsStored
    : SiteOptions → Option FolderContents → Result (Vec StoredFile Global) SiteFault → Type 0
LoadsStored options folder (Ok files) = Loads options folder (Ok (files_of files.items))
LoadsStored options folder (Err fault) = Loads options folder (Err fault)

-- the place of the first file of the name, where the first of them has this place
abbrev pub place_from : ℕ → List ℕ → List StoredFile → Option ℕ
place_from place name [] = None
place_from place name (file ∷ files) =
    if bytes_eq file.name.items name then Some place else place_from (suc place) name files

-- the place that is kept of a name
abbrev pub kept_place : BTreeMap (Vec ℕ Global) ℕ → List ℕ → Option ℕ
kept_place places name = get_by (λ key. slice_cmp nat_cmp name key.items) places

-- the place of the first file of each name is kept
abbrev pub FindsPlaces : List StoredFile → BTreeMap (Vec ℕ Global) ℕ → Type 0
FindsPlaces files places = (name : List ℕ) → kept_place places name ≡ place_from 0 name files
