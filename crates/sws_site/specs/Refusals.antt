-- The responses that refuse, as they are stored.
use Rattle.std.specs.Prelude.{◌≡◌, Option, None}
use Rattle.sws_site.specs.declared.statuses.Status.{Status}
use Rattle.sws_site.specs.declared.statuses.Status.TheVariants.{BadRequest, NotFound, MethodNotAllowed, HeaderFieldsTooLarge, NotImplemented}
use Rattle.sws_site.specs.declared.built_responses.BuiltResponse.{BuiltResponse}
use Rattle.sws_site.specs.declared.options.SiteOptions.{SiteOptions}
use Rattle.sws_site.specs.declared.refusals.Refusals.{Refusals}
use Rattle.sws_site.specs.BuiltResponses.{IsBuilt}
use Rattle.sws_site.specs.Files.{File}
use Rattle.sws_site.specs.Fixed.{page_for, told_type, told_body}

-- the response refuses with this status; no file has a name: this page tells it, where there is one
pub record IsRefusal (options : SiteOptions) (page : Option File) (status : Status)
    (response : BuiltResponse) : Type 0 where
  pub body : response.body.items ≡ told_body (page_for page status) status
  pub heads : IsBuilt options status None None (told_type options (page_for page status)) response

-- each refusal is that of its status
pub record AreRefusals (options : SiteOptions) (page : Option File) (refusals : Refusals)
    : Type 0 where
  pub bad_request : IsRefusal options page BadRequest refusals.bad_request
  pub not_found : IsRefusal options page NotFound refusals.not_found
  pub method_not_allowed : IsRefusal options page MethodNotAllowed refusals.method_not_allowed
  pub header_fields_too_large
      : IsRefusal options page HeaderFieldsTooLarge refusals.header_fields_too_large
  pub not_implemented : IsRefusal options page NotImplemented refusals.not_implemented
