-- The responses that refuse: their content tells the status, in a line or in a page of the site's.
use Rattle.std.specs.Prelude.{◌≡◌, ◌⊎◌, ℕ, Bool, true, false, not, ◌&&◌, if◌then◌else◌, List, [], ◌∷◌, ◌++◌, length, codes, Option, Some, None, IfSome}
use Rattle.sws_site.specs.declared.statuses.Status.{Status}
use Rattle.sws_site.specs.declared.statuses.Status.TheVariants.{Success, PartialContent, MovedPermanently, NotModified, BadRequest, NotFound, MethodNotAllowed, RangeNotSatisfiable, HeaderFieldsTooLarge, NotImplemented}
use Rattle.sws_site.specs.declared.statuses.Body.{Body}
use Rattle.sws_site.specs.declared.statuses.Body.TheVariants.{Nothing, WholeFile, PartOfFile, StatusText}
use Rattle.sws_site.specs.declared.options.SiteOptions.{SiteOptions}
use Rattle.sws_site.specs.Statuses.{row_of, status_text, status_with}
use Rattle.sws_site.specs.ContentTypes.{media_type_of}
use Rattle.sws_site.specs.ResponseHeads.{head_text}
use Rattle.sws_site.specs.Files.{File, file_named}
use Rattle.sws_site.specs.Site.{SiteState}

-- the type of a line of text that tells a status
abbrev pub plain_text : List ℕ
plain_text = codes "text/plain"

-- the line that tells the status
unfoldable pub fixed_body : Status → List ℕ
fixed_body status = status_text status ++ 10 ∷ []

-- ---- the page for names that no file has

-- its name
abbrev pub not_found_name : List ℕ
not_found_name = codes "404.html"

-- the first file of that name, where a site with these options sends it
abbrev pub not_found_page : SiteOptions → List File → Option File
not_found_page options files =
    if options.sends_not_found_page then file_named not_found_name files else None

-- that page is the content of the responses that no file has the name, and of no other
abbrev pub page_for : Option File → Status → Option File
page_for page NotFound = page
page_for page Success = None
page_for page PartialContent = None
page_for page MovedPermanently = None
page_for page NotModified = None
page_for page BadRequest = None
page_for page MethodNotAllowed = None
page_for page RangeNotSatisfiable = None
page_for page HeaderFieldsTooLarge = None
page_for page NotImplemented = None

-- ---- what tells a status

-- the media type of what tells it: that of the page, where there is one
abbrev pub told_type : SiteOptions → Option File → List ℕ
told_type options None = plain_text
told_type options (Some page) = media_type_of options page.0

-- what tells it: the contents of the page, or the line
abbrev pub told_body : Option File → Status → List ℕ
told_body None status = fixed_body status
told_body (Some page) status = page.1

-- the page that tells the status in this site, if one does
abbrev pub status_page : SiteState → Status → Option File
status_page site status = page_for (not_found_page site.options site.files) status

-- what tells the status in this site
unfoldable pub refusal_body : SiteState → Status → List ℕ
refusal_body site status = told_body (status_page site status) status

-- the head for it, which says whether the connection closes; it has no date, whatever it tells
unfoldable pub refusal_head : SiteState → Status → Bool → List ℕ
refusal_head site status closes =
    head_text (record {
      status = status;
      location = None;
      closes = closes;
      says_kept = site.options.keeps_alive;
      date = None;
      max_age = None;
      range = None;
      media_type = told_type site.options (status_page site status);
      len = length (told_body (status_page site status) status);
      headers = site.options.added.headers;
    })

-- the content tells the status
abbrev pub tells_status : Body → Bool
tells_status Nothing = false
tells_status WholeFile = false
tells_status PartOfFile = false
tells_status StatusText = true

-- a status whose response is the same whatever is asked for: its content tells the status, and it
-- is about no part of a file and no other place
abbrev pub is_fixed : Status → Bool
is_fixed status =
    let row = row_of status in tells_status row.body && not row.has_range && not row.has_location

-- the code is that of such a response
abbrev pub IsFixed : ℕ → Type 0
IsFixed code = (code ≡ 400) ⊎ ((code ≡ 404) ⊎ ((code ≡ 405) ⊎ ((code ≡ 431) ⊎ (code ≡ 501))))

-- the head, and the body, of the site's response of the code
abbrev pub IsFixedHead : SiteState → ℕ → Bool → List ℕ → Type 0
IsFixedHead site code closes head =
    IfSome (status_with code) (λ status. head ≡ refusal_head site status closes)

-- the body tells the status of this code, if there is one
abbrev pub IsFixedBody : SiteState → ℕ → List ℕ → Type 0
IsFixedBody site code body = IfSome (status_with code) (λ status. body ≡ refusal_body site status)
