-- The responses of a site.
use Rattle.std.proofs.Common.{◌≡◌, ℕ, Bool, true, false, List, [], ◌∷◌, ◌++◌, length, Option, Some, None, ap, sym, subst, ◌∙◌}
use Rattle.std.specs.Prelude.{MatchOption}
use Rattle.httpdate.specs.declared.date.HttpDate.{HttpDate}
use Rattle.sws_site.specs.declared.statuses.Status.{Status}
use Rattle.sws_site.specs.declared.statuses.Status.TheVariants.{Success, NotModified}
use Rattle.sws_site.specs.declared.built_responses.BuiltResponse.{BuiltResponse}
use Rattle.sws_site.specs.declared.options.SiteOptions.{SiteOptions}
use Rattle.sws_site.specs.declared.stored.StoredFile.{StoredFile}
use Rattle.sws_site.specs.Statuses.{status_text}
use Rattle.sws_site.specs.ResponseHeads.{head_text}
use Rattle.sws_site.specs.Ages.{age_of}
use Rattle.sws_site.specs.Files.{File, file_head, not_modified_head}
use Rattle.sws_site.specs.Fixed.{fixed_body, not_found_page, status_page, told_type, refusal_head, refusal_body}
use Rattle.sws_site.specs.BuiltResponses.{IsBuilt, built_head}
use Rattle.sws_site.specs.Refusals.{IsRefusal}
use Rattle.sws_site.specs.Site.{SiteState}
use Rattle.sws_site.specs.Stored.{HasHeads, HasNotModified, file_of}

-- either head
built_head-text : (options : SiteOptions) (status : Status) (max_age : Option ℕ) (date : Option HttpDate) (media_type : List ℕ) (response : BuiltResponse) (closes : Bool) → IsBuilt options status max_age date media_type response
    → built_head response closes ≡ head_text (record { status = status; location = None; closes = closes; says_kept = options.keeps_alive; date = date; max_age = max_age; range = None; media_type = media_type; len = length response.body.items; headers = options.added.headers })
built_head-text options status max_age date media_type response true built = built.closing_head
built_head-text options status max_age date media_type response false built = built.open_head

pub built_head-file : (options : SiteOptions) (date : Option HttpDate) (stored : StoredFile) (closes : Bool) → HasHeads options date stored
    → built_head stored.response closes ≡ file_head options date (file_of stored) closes
unfolding file_head
built_head-file options date stored closes has = built_head-text options Success _ date _ stored.response closes has.response

pub built_head-not_modified : (options : SiteOptions) (date : Option HttpDate) (file : File) (response : BuiltResponse) (closes : Bool) → IsBuilt options NotModified (age_of options file.0) date [] response
    → response.body.items ≡ [] → built_head response closes ≡ not_modified_head options date file closes
unfolding not_modified_head
built_head-not_modified options date file response closes built none =
    built_head-text options NotModified (age_of options file.0) date [] response closes built
    ∙ ap (λ (body : List ℕ). head_text (record { status = NotModified; location = None; closes = closes; says_kept = options.keeps_alive; date = date; max_age = age_of options file.0; range = None; media_type = []; len = length body; headers = options.added.headers })) none

-- the response of a file that it was not modified: its own, or else that of all others
pub own_or-built : (options : SiteOptions) (date : Option HttpDate) (name : List ℕ) (own : Option BuiltResponse) (other response : BuiltResponse) → HasNotModified options date name own
    → IsBuilt options NotModified options.added.max_age date [] other → other.body.items ≡ [] → MatchOption own (response ≡ other) (λ given. response ≡ given)
    → IsBuilt options NotModified (age_of options name) date [] response × (response.body.items ≡ [])
own_or-built options date name None other response has built none is = (
  subst (λ age. IsBuilt options NotModified age date [] response) (sym has) (subst (λ r. IsBuilt options NotModified options.added.max_age date [] r) (sym is) built),
  ap (λ (r : BuiltResponse). r.body.items) is ∙ none,
)
own_or-built options date name (Some given) other response has built none is =
    (subst (λ r. IsBuilt options NotModified (age_of options name) date [] r) (sym is) has.0, ap (λ (r : BuiltResponse). r.body.items) is ∙ has.1)

pub built_head-refusal : (site : SiteState) (status : Status) (response : BuiltResponse) (closes : Bool)
    → IsRefusal site.options (not_found_page site.options site.files) status response → built_head response closes ≡ refusal_head site status closes
unfolding refusal_head
built_head-refusal site status response closes refusal =
    built_head-text site.options status None None (told_type site.options (status_page site status)) response closes refusal.heads
    ∙ ap (λ (body : List ℕ). head_text (record { status = status; location = None; closes = closes; says_kept = site.options.keeps_alive; date = None; max_age = None; range = None; media_type = told_type site.options (status_page site status); len = length body; headers = site.options.added.headers })) refusal.body

pub refusal_body-text : (site : SiteState) (status : Status) (response : BuiltResponse)
    → IsRefusal site.options (not_found_page site.options site.files) status response → response.body.items ≡ refusal_body site status
unfolding refusal_body
refusal_body-text site status response refusal = refusal.body

-- the line that tells the status
pub fixed_body-text : (status : Status) (body : List ℕ) → body ≡ ([] ++ status_text status) ++ 10 ∷ [] → body ≡ fixed_body status
unfolding fixed_body
fixed_body-text status body is = is
