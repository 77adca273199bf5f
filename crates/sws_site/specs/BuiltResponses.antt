-- Responses that are built once.
use Rattle.std.specs.Prelude.{◌≡◌, ℕ, Bool, true, false, List, length, Option, None, if◌then◌else◌}
use Rattle.httpdate.specs.declared.date.HttpDate.{HttpDate}
use Rattle.sws_site.specs.declared.statuses.Status.{Status}
use Rattle.sws_site.specs.declared.options.SiteOptions.{SiteOptions}
use Rattle.sws_site.specs.declared.built_responses.BuiltResponse.{BuiltResponse}
use Rattle.sws_site.specs.ResponseHeads.{head_text}

-- the two heads are those of such a response with this body, which may be kept for so many seconds,
-- of a site with these options
pub record IsBuilt (options : SiteOptions) (status : Status) (max_age : Option ℕ)
    (date : Option HttpDate) (media_type : List ℕ) (response : BuiltResponse) : Type 0 where
  pub open_head : response.open_head.items
      ≡ head_text (record {
        status = status;
        location = None;
        closes = false;
        says_kept = options.keeps_alive;
        date = date;
        max_age = max_age;
        range = None;
        media_type = media_type;
        len = length response.body.items;
        headers = options.added.headers;
      })
  pub closing_head : response.closing_head.items
      ≡ head_text (record {
        status = status;
        location = None;
        closes = true;
        says_kept = options.keeps_alive;
        date = date;
        max_age = max_age;
        range = None;
        media_type = media_type;
        len = length response.body.items;
        headers = options.added.headers;
      })

-- the head that ends the connection, or the other one
abbrev pub built_head : BuiltResponse → Bool → List ℕ
built_head response closes =
    if closes then response.closing_head.items else response.open_head.items
