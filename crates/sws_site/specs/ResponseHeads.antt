-- The head of a response: the status line and the header fields (RFC 9112, sections 2.1 and 4).
use Rattle.std.specs.Prelude.{if◌then◌else◌, ℕ, Bool, true, false, List, [], ◌∷◌, ◌++◌, codes, Option, Some, None}
use Rattle.std.specs.List.{flat_map}
use Rattle.std.specs.Fmt.{decimal}
use Rattle.httpdate.specs.declared.date.HttpDate.{HttpDate}
use Rattle.httpdate.specs.Date.{date_text}
use Rattle.sws_site.specs.declared.statuses.Status.{Status}
use Rattle.sws_site.specs.declared.statuses.Body.{Body}
use Rattle.sws_site.specs.declared.statuses.Body.TheVariants.{Nothing, WholeFile, PartOfFile, StatusText}
use Rattle.sws_site.specs.declared.heads.ContentRange.{ContentRange}
use Rattle.sws_site.specs.declared.heads.ContentRange.TheVariants.{Selected, NoSuch}
use Rattle.sws_site.specs.Statuses.{row_of, status_text}

-- what a head says: the status, where what is asked for is to be found, if that is elsewhere, whether
-- the connection ends with this response, and whether that it doesn't is said, when the site was last
-- modified, for how many seconds a file may be kept, which part of a file the response is about, the
-- media type and the length of the content that it has, or would have for GET, and the lines that the
-- site adds, with their ends
pub record ResponseHead : Type 0 where
  pub status : Status
  pub location : Option (List ℕ)
  pub closes : Bool
  pub says_kept : Bool
  pub date : Option HttpDate
  pub max_age : Option ℕ
  pub range : Option ContentRange
  pub media_type : List ℕ
  pub len : ℕ
  pub headers : List ℕ

-- RFC 9112, section 4
abbrev pub status_line : Status → List ℕ
status_line status = codes "HTTP/1.1 " ++ status_text status

-- RFC 9110, section 10.2.4
abbrev pub server_line : List ℕ
server_line = codes "Server: sws"

-- the path of another resource, as a reference (RFC 9110, section 10.2.2)
abbrev pub location_lines : Option (List ℕ) → List (List ℕ)
location_lines None = []
location_lines (Some path) = (codes "Location: " ++ path) ∷ []

-- the connection ends with this response (RFC 9112, section 9.6), or stays open after it, where that
-- is said (RFC 9112, section 9.3)
abbrev pub connection_lines : Bool → Bool → List (List ℕ)
connection_lines true says_kept = codes "Connection: close" ∷ []
connection_lines false true = codes "Connection: keep-alive" ∷ []
connection_lines false false = []

-- the date as an IMF-fixdate (RFC 9110, sections 5.6.7 and 8.8.2)
abbrev pub date_lines : Option HttpDate → List (List ℕ)
date_lines None = []
date_lines (Some date) = (codes "Last-Modified: " ++ date_text date) ∷ []

-- a response of such a status has the date, if that is known
abbrev pub last_modified_lines : Bool → Option HttpDate → List (List ℕ)
last_modified_lines is_dated date = if is_dated then date_lines date else []

-- for how many seconds the response may be kept (RFC 9111, section 5.2.2.1)
abbrev pub max_age_lines : Option ℕ → List (List ℕ)
max_age_lines None = []
max_age_lines (Some seconds) = (codes "Cache-Control: max-age=" ++ decimal seconds) ∷ []

-- a response of a status that has the date says so, where the site does
abbrev pub cache_lines : Bool → Option ℕ → List (List ℕ)
cache_lines is_dated max_age = if is_dated then max_age_lines max_age else []

-- the methods that a file has (RFC 9110, sections 10.2.1 and 15.5.6)
abbrev pub allow_lines : Bool → List (List ℕ)
allow_lines lists_methods = if lists_methods then codes "Allow: GET, HEAD" ∷ [] else []

-- the first and the last byte of the part, and how many the whole file has; or that
-- the file has no such part
abbrev pub range_text : ContentRange → List ℕ
range_text (Selected first last len) =
    decimal first ++ codes "-" ++ decimal last ++ codes "/" ++ decimal len
range_text (NoSuch len) = codes "*/" ++ decimal len

-- RFC 9110, section 14.4
abbrev pub content_range_lines : Option ContentRange → List (List ℕ)
content_range_lines None = []
content_range_lines (Some range) = (codes "Content-Range: bytes " ++ range_text range) ∷ []

-- a response of such a status says which part of a file it is about
abbrev pub range_lines : Bool → Option ContentRange → List (List ℕ)
range_lines has_range range = if has_range then content_range_lines range else []

-- RFC 9110, sections 8.3 and 8.6
abbrev pub media_type_and_len_lines : List ℕ → ℕ → List (List ℕ)
media_type_and_len_lines media_type len =
    (codes "Content-Type: " ++ media_type) ∷ (codes "Content-Length: " ++ decimal len) ∷ []

-- every response but 304 has content (RFC 9110, section 15.4.5)
abbrev pub content_lines : Body → List ℕ → ℕ → List (List ℕ)
content_lines Nothing media_type len = []
content_lines WholeFile media_type len = media_type_and_len_lines media_type len
content_lines PartOfFile media_type len = media_type_and_len_lines media_type len
content_lines StatusText media_type len = media_type_and_len_lines media_type len

-- the lines of the head in their order, without their ends
abbrev pub head_lines : ResponseHead → List (List ℕ)
head_lines head =
    let row = row_of head.status in
    status_line head.status
    ∷ server_line
    ∷ (location_lines head.location
    ++ connection_lines head.closes head.says_kept
    ++ last_modified_lines row.is_dated head.date
    ++ cache_lines row.is_dated head.max_age
    ++ allow_lines row.lists_methods
    ++ range_lines row.has_range head.range
    ++ content_lines row.body head.media_type head.len)

-- CR LF
abbrev pub line_end : List ℕ
line_end = 13 ∷ 10 ∷ []

-- each line with its end
abbrev pub lines_text : List (List ℕ) → List ℕ
lines_text lines = flat_map (λ line. line ++ line_end) lines

-- the lines, those that the site adds to every head, and the empty line that ends the head
unfoldable pub head_text : ResponseHead → List ℕ
head_text head = (lines_text (head_lines head) ++ head.headers) ++ line_end
