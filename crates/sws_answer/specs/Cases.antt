-- The status of the answer to a request: the first of a table of cases (RFC 9110, sections 9, 13
-- and 15; RFC 9112, section 3).
use Rattle.std.specs.Prelude.{ℕ, Bool, not, ◌==◌, ◌&&◌, ◌||◌, if◌then◌else◌, nat_lt, List, [], ◌∷◌, length, codes, Option, option_and_then, is_none}
use Rattle.std.specs.List.{list_any}
use Rattle.std.specs.Option.{option_or}
use Rattle.std.specs.Str.{bytes_eq}
use Rattle.sws_request.specs.Request.{Request}
use Rattle.sws_site.specs.declared.statuses.Status.{Status}
use Rattle.sws_site.specs.declared.statuses.Status.TheVariants.{Success, PartialContent, MovedPermanently, NotModified, BadRequest, NotFound, MethodNotAllowed, RangeNotSatisfiable, NotImplemented}
use Rattle.sws_site.specs.Files.{File, file_named}
use Rattle.sws_site.specs.Folders.{folder_index}
use Rattle.sws_site.specs.Site.{SiteState}
use Rattle.sws_answer.specs.Fields.{values_of}
use Rattle.sws_answer.specs.Framing.{is_ambiguous}
use Rattle.sws_answer.specs.Targets.{path_and_query, name_of}
use Rattle.sws_answer.specs.Conditions.{is_unmodified}
use Rattle.sws_answer.specs.Ranges.{selection_for, is_part, is_unsatisfied}

-- there is more than one field Host, or none with HTTP/1.1 (RFC 9112, section 3.2)
abbrev pub lacks_host : Request → Bool
lacks_host asked =
    let hosts = length (values_of (codes "host") asked.fields) in
    nat_lt 1 hosts || (hosts == 0 && asked.minor == 1)

-- the site refuses the request whatever it asks: it lacks a host, or is one that another server may
-- read otherwise, where the site refuses such
abbrev pub is_malformed : SiteState → Request → Bool
is_malformed site asked =
    lacks_host asked || (site.options.refuses_ambiguous && is_ambiguous asked.fields)

-- the word is one of the list, byte for byte
abbrev pub is_one_of : List (List ℕ) → List ℕ → Bool
is_one_of words word = list_any (bytes_eq word) words

-- the methods that a file has (RFC 9110, sections 9.3.1 and 9.3.2)
abbrev pub file_methods : List (List ℕ)
file_methods = codes "GET" ∷ codes "HEAD" ∷ []

-- the methods that are known, and that no file has (RFC 9110, section 9.3; RFC 5789)
abbrev pub other_methods : List (List ℕ)
other_methods =
    codes "OPTIONS" ∷ codes "POST" ∷ codes "PUT" ∷ codes "DELETE" ∷ codes "PATCH" ∷ codes "TRACE"
    ∷ codes "CONNECT" ∷ []

-- the file that the request names
abbrev pub file_for : SiteState → Request → Option File
file_for site asked = option_and_then (λ name. file_named name site.files) (name_of site.options asked.target)

-- the index of the folder that the request names without its last slash, where the site redirects to
-- that folder
abbrev pub folder_for : SiteState → Request → Option File
folder_for site asked = option_and_then (folder_index site) (name_of site.options asked.target)

-- the file that the answer is about: the one that the request names, or else the index of a folder
abbrev pub subject_for : SiteState → Request → Option File
subject_for site asked = option_or (file_for site asked) (folder_for site asked)

-- the status of the first case that holds
abbrev pub first_case : List (Bool × Status) → Status → Status
first_case [] otherwise = otherwise
first_case (row ∷ rows) otherwise = if row.0 then row.1 else first_case rows otherwise

-- the cases of a request, with the status of each
abbrev pub request_cases : SiteState → Request → List (Bool × Status)
request_cases site asked =
    (is_malformed site asked, BadRequest)
    ∷ (is_one_of other_methods asked.method, MethodNotAllowed)
    ∷ (not (is_one_of file_methods asked.method), NotImplemented)
    ∷ (is_none (path_and_query asked.target), BadRequest)
    ∷ (is_none (subject_for site asked), NotFound)
    ∷ (is_none (file_for site asked), MovedPermanently)
    ∷ (is_unmodified site.date asked.fields, NotModified)
    ∷ (is_unsatisfied (selection_for site asked (file_for site asked)), RangeNotSatisfiable)
    ∷ (is_part (selection_for site asked (file_for site asked)), PartialContent)
    ∷ []

-- the status of the first case that holds of the request, and success where none
-- does: the file is sent whole
unfoldable pub request_status : SiteState → Request → Status
request_status site asked = first_case (request_cases site asked) Success
