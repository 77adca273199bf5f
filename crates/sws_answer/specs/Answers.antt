-- The answer to one head (RFC 9110, RFC 9112; RFC 6585, section 5).
use Rattle.std.specs.Prelude.{ℕ, ◌+◌, Bool, true, false, ◌||◌, if◌then◌else◌, List, [], ◌++◌, length, slice_range, codes, Option, Some, None, option_map}
use Rattle.std.specs.Str.{bytes_eq}
use Rattle.sws_request.specs.Request.{Request}
use Rattle.sws_site.specs.declared.statuses.Status.{Status}
use Rattle.sws_site.specs.declared.statuses.Status.TheVariants.{BadRequest, HeaderFieldsTooLarge}
use Rattle.sws_site.specs.declared.statuses.Body.{Body}
use Rattle.sws_site.specs.declared.statuses.Body.TheVariants.{Nothing, WholeFile, PartOfFile, StatusText}
use Rattle.sws_site.specs.declared.heads.ContentRange.{ContentRange}
use Rattle.sws_site.specs.declared.heads.ContentRange.TheVariants.{Selected, NoSuch}
use Rattle.sws_site.specs.Statuses.{row_of, code_of}
use Rattle.sws_site.specs.ContentTypes.{media_type_of}
use Rattle.sws_site.specs.Ages.{age_of}
use Rattle.sws_site.specs.ResponseHeads.{head_text}
use Rattle.sws_site.specs.Fixed.{status_page, told_type, told_body}
use Rattle.sws_site.specs.Folders.{folder_path}
use Rattle.sws_site.specs.Files.{File}
use Rattle.sws_site.specs.Site.{SiteState}
use Rattle.sws_answer.specs.Asked.{Asked, request, not_request, too_long}
use Rattle.sws_answer.specs.Cases.{request_status, subject_for}
use Rattle.sws_answer.specs.Closing.{is_closing}
use Rattle.sws_answer.specs.declared.ranges.Selection.{Selection}
use Rattle.sws_answer.specs.declared.ranges.Selection.TheVariants.{Whole, Part, Unsatisfied}
use Rattle.sws_answer.specs.Ranges.{selection_for}

-- what is sent, with its status code, and whether the connection ends with it; and the target of
-- what was asked
pub record Answer : Type 0 where
  pub code : ℕ
  pub closes : Bool
  pub head : List ℕ
  pub body : List ℕ
  pub target : List ℕ

-- all that is sent
abbrev pub text_of : Answer → List ℕ
text_of answer = answer.head ++ answer.body

-- ---- the response of one status

-- the content of a response, with its type
pub record Content : Type 0 where
  pub media_type : List ℕ
  pub bytes : List ℕ

-- there is no content
abbrev pub no_content : Content
no_content = record { media_type = []; bytes = [] }

-- a file of a site as content, all of it
abbrev pub file_content : SiteState → Option File → Content
file_content site None = no_content
file_content site (Some file) =
    record { media_type = media_type_of site.options file.0; bytes = file.1 }

-- the bytes from the first to the last one that are selected
abbrev pub selected_bytes : Selection → List ℕ → List ℕ
selected_bytes Whole bytes = bytes
selected_bytes (Part first last) bytes = slice_range bytes first (last + 1)
selected_bytes Unsatisfied bytes = []

-- the selected part of a file as content
abbrev pub part_content : SiteState → Option File → Selection → Content
part_content site None selection = no_content
part_content site (Some file) selection = record {
  media_type = media_type_of site.options file.0;
  bytes = selected_bytes selection file.1;
}

-- what tells a status in the site: a line of text, or the page for names that no file has
abbrev pub status_content : SiteState → Status → Content
status_content site status = record {
  media_type = told_type site.options (status_page site status);
  bytes = told_body (status_page site status) status;
}

-- the content by what that of the status is
abbrev pub content_by : Body → SiteState → Status → Option File → Selection → Content
content_by Nothing site status file selection = no_content
content_by WholeFile site status file selection = file_content site file
content_by PartOfFile site status file selection = part_content site file selection
content_by StatusText site status file selection = status_content site status

-- the content of the response with this status
abbrev pub content_of : SiteState → Status → Option File → Selection → Content
content_of site status file selection = content_by (row_of status).body site status file selection

-- which part of a file of so many bytes is sent, or that it has none such (RFC 9110, section 14.4)
abbrev pub selected_range : Selection → ℕ → Option ContentRange
selected_range Whole len = None
selected_range (Part first last) len = Some (Selected first last len)
selected_range Unsatisfied len = Some (NoSuch len)

-- what the head says of the range, where one of a file is asked for
abbrev pub range_of : Option File → Selection → Option ContentRange
range_of None selection = None
range_of (Some file) selection = selected_range selection (length file.1)

-- for how many seconds the file may be kept that the response is about, if that is said
abbrev pub age_for : SiteState → Option File → Option ℕ
age_for site None = None
age_for site (Some file) = age_of site.options file.0

-- where a head of such a status says that what is asked for is: the path of the folder of the index
abbrev pub location_of : Bool → Option File → Option (List ℕ)
location_of has_location index =
    if has_location then option_map (λ file. folder_path file.0) index else None

-- for HEAD the content is left out, and all lines stay (RFC 9110, section 9.3.2); the target isn't
-- known here
unfoldable pub response : SiteState → Status → Option File → Selection → Bool → Bool → Answer
response site status file selection closes is_head =
    let content = content_of site status file selection in
    record {
      code = code_of status;
      closes = closes;
      head = head_text (record {
        status = status;
        location = location_of (row_of status).has_location file;
        closes = closes;
        says_kept = site.options.keeps_alive;
        date = site.date;
        max_age = age_for site file;
        range = range_of file selection;
        media_type = content.media_type;
        len = length content.bytes;
        headers = site.options.added.headers;
      });
      body = if is_head then [] else content.bytes;
      target = [];
    }

-- ---- the answer to what was asked

-- the response has no content (RFC 9110, section 9.3.2)
abbrev pub is_head_request : Request → Bool
is_head_request asked = bytes_eq asked.method (codes "HEAD")

-- the answer to a request; with last no further head is answered
unfoldable pub request_answer : SiteState → Request → Bool → Answer
request_answer site asked last =
    let status = request_status site asked in
    let file = subject_for site asked in
    let closes = (row_of status).closes || is_closing site.options asked || last in
    response site status file (selection_for site asked file) closes (is_head_request asked)

-- the response to what was asked; of what is no request no method is known, so its body is sent
abbrev pub response_to : SiteState → Asked → Bool → Answer
response_to site (request asked) last = request_answer site asked last
response_to site not_request last = response site BadRequest None Whole true false
response_to site too_long last = response site HeaderFieldsTooLarge None Whole true false

-- the target that was asked for, as the request line has it (RFC 9112, section 3.2), or `-` where
-- there is no request
abbrev pub target_of : Asked → List ℕ
target_of (request asked) = asked.target
target_of not_request = codes "-"
target_of too_long = codes "-"

-- the answer to what was asked: the response to it, with its target
abbrev pub answer_of : SiteState → Asked → Bool → Answer
answer_of site asked last = record (response_to site asked last) { target = target_of asked }

-- no answer out of a site within its limits has more bytes: 2^34
abbrev pub text_limit : ℕ
text_limit = 17179869184
