-- The responses that redirect, as they are stored.
use Rattle.std.specs.Prelude.{◌≡◌, Bool, true, false, List, ℕ, Option, Some, None}
use Rattle.sws_site.specs.declared.statuses.Status.TheVariants.{MovedPermanently}
use Rattle.sws_site.specs.declared.built_responses.BuiltResponse.{BuiltResponse}
use Rattle.sws_site.specs.declared.options.SiteOptions.{SiteOptions}
use Rattle.sws_site.specs.Fixed.{fixed_body}
use Rattle.sws_site.specs.Folders.{redirect_head}

-- the response redirects to this path
pub record IsRedirect (options : SiteOptions) (path : List ℕ) (response : BuiltResponse)
    : Type 0 where
  pub body : response.body.items ≡ fixed_body MovedPermanently
  pub open_head : response.open_head.items ≡ redirect_head options path false
  pub closing_head : response.closing_head.items ≡ redirect_head options path true

-- there is such a response where the test holds, and none where it doesn't
abbrev pub HasRedirect : SiteOptions → Bool → List ℕ → Option BuiltResponse → Type 0
HasRedirect options redirects path None = redirects ≡ false
HasRedirect options redirects path (Some response) =
    (redirects ≡ true) × IsRedirect options path response
