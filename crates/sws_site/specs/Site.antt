-- What a site is to its callers.
use Rattle.std.specs.Prelude.{◌≡◌, ℕ, Bool, if◌then◌else◌, List, Option, option_map}
use Rattle.httpdate.specs.declared.date.HttpDate.{HttpDate}
use Rattle.httpdate.specs.Date.{unix_secs}
use Rattle.sws_site.specs.Files.{File, file_named, file_head, not_modified_head}
use Rattle.sws_site.specs.declared.options.SiteOptions.{SiteOptions}
use Rattle.sws_site.specs.Page.{PageState}

-- the files in the folder's order, when the site was last modified, if that is known, and what the
-- site does beyond sending them and how much it holds
pub record SiteState : Type 0 where
  pub files : List File
  pub date : Option HttpDate
  pub options : SiteOptions

-- the first file of the name
abbrev pub found_in : SiteState → List ℕ → Option PageState
found_in site name =
    option_map (λ file. record { file = file; date = site.date; options = site.options })
    (file_named name site.files)

-- the head of the response to a request for the file, which has changed since the date that the
-- request names or has not
abbrev pub page_head : PageState → Bool → Bool → List ℕ
page_head page changed closes =
    if changed then file_head page.options page.date page.file closes
    else not_modified_head page.options page.date page.file closes

-- the last second of the year 9999, in seconds after the beginning of 1970, and so the last that a
-- date shows, which has four digits for the year (RFC 9110, section 5.6.7)
abbrev pub last_second : ℕ
last_second = 253402300799

-- the date is so many seconds after the beginning of 1970, where one is given
abbrev pub IsDateAt : Option ℕ → Option HttpDate → Type 0
IsDateAt given date = option_map unix_secs date ≡ given
