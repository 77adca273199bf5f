-- How long an answer is at most.
use Rattle.std.specs.Prelude.{◌≡◌, ℕ, ◌+◌, ◌<◌, ◌≤◌, ◌^◌, Bool, true, false, if◌then◌else◌, List, [], ◌++◌, length, Option, Some, None, option_and_then, ⊤}
use Rattle.std.specs.Option.{option_or, ForSome}
use Rattle.std.proofs.Common.{refl, sym, arith, length-append, lit≤}
use Rattle.sws_request.specs.Request.{Request}
use Rattle.sws_site.specs.declared.statuses.Status.{Status}
use Rattle.sws_site.specs.declared.statuses.Status.TheVariants.{Success, PartialContent, MovedPermanently, NotModified, BadRequest, NotFound, MethodNotAllowed, RangeNotSatisfiable, HeaderFieldsTooLarge, NotImplemented}
use Rattle.sws_site.specs.declared.options.SiteOptions.{SiteOptions}
use Rattle.sws_site.specs.Statuses.{row_of}
use Rattle.sws_site.specs.ResponseHeads.{ResponseHead, head_text, lines_text, location_lines}
use Rattle.sws_site.specs.Fixed.{fixed_body, told_type, told_body, not_found_name, not_found_page}
use Rattle.sws_site.specs.Folders.{folder_path, folder_index, redirects_to, index_tail}
use Rattle.sws_site.proofs.FolderLemmas.{folder_path-short}
use Rattle.sws_site.specs.Files.{File, file_named}
use Rattle.sws_site.specs.Limits.{IsWithinLimits, size_limit, name_limit}
use Rattle.sws_site.specs.Site.{SiteState}
use Rattle.sws_site.proofs.HeadLengthsLemmas.{media_type_of-short, IsShortRange, head_text-short}
use Rattle.sws_site.specs.Options.{no_age}
use Rattle.sws_site.proofs.AgeLemmas.{age_of-short}
use Rattle.sws_site.proofs.FileLemmas.{file_named-short, file_named-name-short}
use Rattle.sws_answer.specs.Asked.{Asked, request, not_request, too_long}
use Rattle.sws_answer.specs.declared.ranges.Selection.{Selection}
use Rattle.sws_answer.specs.declared.ranges.Selection.TheVariants.{Whole, Part, Unsatisfied}
use Rattle.sws_answer.specs.Ranges.{IsWithin, selection_for}
use Rattle.sws_answer.specs.Targets.{name_of}
use Rattle.sws_answer.specs.Cases.{file_for, folder_for, subject_for}
use Rattle.sws_answer.specs.Answers.{text_of, text_limit, Content, content_of, location_of, range_of, age_for, response, request_answer, answer_of}
use Rattle.sws_answer.proofs.RangeLemmas.{selection_for-within, length-part-le}

-- ---- files

-- neither its contents nor its name is longer than those of a site may be
IsShort : Option File → Type 0
IsShort None = ⊤
IsShort (Some file) = (length file.1 ≤ size_limit) × (length file.0 ≤ name_limit)

named-short : (files : List File) (name : List ℕ) → IsWithinLimits files → IsShort (file_named name files)
unfolding IsShort
named-short files name within = by_file (file_named name files) refl
  where
    by_file : (found : Option File) → found ≡ file_named name files → IsShort found
    by_file None e = tt
    by_file (Some file) e =
        ((let short = file_named-short files name file (sym e) in let few = within.bytes in omega arith), file_named-name-short files name file within (sym e))

if-short : (t : Bool) (file : Option File) → IsShort file → IsShort (if t then file else None)
unfolding IsShort
if-short true file short = short
if-short false file short = tt

or-short : (file other : Option File) → IsShort file → IsShort other → IsShort (option_or file other)
unfolding IsShort
or-short None other short also = also
or-short (Some file) other short also = short

then-short : (name : Option (List ℕ)) (find_by : List ℕ → Option File) → ((n : List ℕ) → IsShort (find_by n)) → IsShort (option_and_then find_by name)
unfolding IsShort
then-short None find_by each = tt
then-short (Some n) find_by each = each n

subject-short : (site : SiteState) (asked : Request) → IsWithinLimits site.files → IsShort (subject_for site asked)
subject-short site asked within =
    or-short (file_for site asked) (folder_for site asked)
    (then-short (name_of site.options asked.target) (λ name. file_named name site.files) (λ name. named-short site.files name within))
    (then-short (name_of site.options asked.target) (folder_index site) (λ name. if-short (redirects_to site.options (name ++ index_tail)) (file_named (name ++ index_tail) site.files) (named-short site.files (name ++ index_tail) within)))

-- ---- answers

-- the content of a response
record HasShortContent (content : Content) : Type 0 where
  media_type : length content.media_type ≤ 80
  bytes : length content.bytes ≤ size_limit

told-short : (options : SiteOptions) (page : Option File) → IsShort page → HasShortContent (record { media_type = told_type options page; bytes = told_body page NotFound })
unfolding IsShort fixed_body
told-short options None short = record { media_type = lit≤ tt; bytes = lit≤ tt }
told-short options (Some page) short = record { media_type = media_type_of-short options page.0; bytes = short.0 }

content_of-short : (site : SiteState) (status : Status) (file : Option File) (selection : Selection) → IsWithinLimits site.files → IsShort file
    → HasShortContent (content_of site status file selection)
unfolding IsShort fixed_body
content_of-short site Success None selection within short = record { media_type = lit≤ tt; bytes = lit≤ tt }
content_of-short site Success (Some file) selection within short = record { media_type = media_type_of-short site.options file.0; bytes = short.0 }
content_of-short site PartialContent None selection within short = record { media_type = lit≤ tt; bytes = lit≤ tt }
content_of-short site PartialContent (Some file) Whole within short = record { media_type = media_type_of-short site.options file.0; bytes = short.0 }
content_of-short site PartialContent (Some file) (Part first last) within short =
    record { media_type = media_type_of-short site.options file.0; bytes = length-part-le file.1 first (last + 1) size_limit short.0 }
content_of-short site PartialContent (Some file) Unsatisfied within short = record { media_type = media_type_of-short site.options file.0; bytes = lit≤ tt }
content_of-short site MovedPermanently file selection within short = record { media_type = lit≤ tt; bytes = lit≤ tt }
content_of-short site NotModified file selection within short = record { media_type = lit≤ tt; bytes = lit≤ tt }
content_of-short site BadRequest file selection within short = record { media_type = lit≤ tt; bytes = lit≤ tt }
content_of-short site NotFound file selection within short =
    told-short site.options (not_found_page site.options site.files)
    (if-short site.options.sends_not_found_page (file_named not_found_name site.files) (named-short site.files not_found_name within))
content_of-short site MethodNotAllowed file selection within short = record { media_type = lit≤ tt; bytes = lit≤ tt }
content_of-short site RangeNotSatisfiable file selection within short = record { media_type = lit≤ tt; bytes = lit≤ tt }
content_of-short site HeaderFieldsTooLarge file selection within short = record { media_type = lit≤ tt; bytes = lit≤ tt }
content_of-short site NotImplemented file selection within short = record { media_type = lit≤ tt; bytes = lit≤ tt }

-- the line of the location
path_line-short : (path : List ℕ) → length path ≤ 3073 → length (lines_text (location_lines (Some path))) ≤ 4096
path_line-short path short = simp length-append (omega (arith, short))

location-short : (has_location : Bool) (file : Option File) → IsShort file → length (lines_text (location_lines (location_of has_location file))) ≤ 4096
unfolding IsShort
location-short false file short = lit≤ tt
location-short true None short = lit≤ tt
location-short true (Some file) short = path_line-short (folder_path file.0) (let few = short.1 in omega (arith, folder_path-short file.0, few))

-- the selection lies within the file, where there is one
abbrev FitsFile : Option File → Selection → Type 0
FitsFile None selection = selection ≡ Whole
FitsFile (Some file) selection = IsWithin (length file.1) selection

range_of-short : (file : Option File) (selection : Selection) (sent : ℕ) → IsShort file → FitsFile file selection → sent ≤ size_limit → IsShortRange (range_of file selection) sent
unfolding IsShort
range_of-short None selection sent short fits small = tt
range_of-short (Some file) Whole sent short fits small = tt
range_of-short (Some file) (Part first last) sent short fits small =
    let few = short.0 in ((let a = fits.0 in let b = fits.1 in omega (arith, few)), (let b = fits.1 in omega (arith, few)), omega (arith, few), small)
range_of-short (Some file) Unsatisfied sent short fits small = let few = short.0 in (omega (arith, few), small)

age_for-short : (site : SiteState) (file : Option File) → ForSome (age_for site file) (λ seconds. seconds < 2 ^ 32)
age_for-short site None = no_age
age_for-short site (Some file) = age_of-short site.options file.0

response-short : (site : SiteState) (status : Status) (file : Option File) (selection : Selection) (closes is_head : Bool) → IsWithinLimits site.files → IsShort file → FitsFile file selection
    → length (text_of (response site status file selection closes is_head)) ≤ text_limit
unfolding response
response-short site status file selection closes is_head within short fits =
    let content = content_of-short site status file selection within short in
    let few = content.bytes in
    let head : ResponseHead = record {
      status = status;
      location = location_of (row_of status).has_location file;
      closes = closes;
      says_kept = site.options.keeps_alive;
      date = site.date;
      max_age = age_for site file;
      range = range_of file selection;
      media_type = (content_of site status file selection).media_type;
      len = length (content_of site status file selection).bytes;
      headers = site.options.added.headers;
    } in
    by_head (head_text head) (content_of site status file selection).bytes
    (let head_short = head_text-short head content.media_type (omega arith) (range_of-short file selection (length (content_of site status file selection).bytes) short fits few) (age_for-short site file) site.options.added.short_headers in
    let line = location-short (row_of status).has_location file short in omega (arith, head_short, line)) content.bytes is_head
  where
    by_head : (head bytes : List ℕ) → length head ≤ 8192 → length bytes ≤ size_limit → (t : Bool) → length (head ++ (if t then [] else bytes)) ≤ text_limit
    by_head head bytes short few true = omega (arith, length-append head [])
    by_head head bytes short few false = omega (arith, length-append head bytes)

selection-fits : (site : SiteState) (asked : Request) (file : Option File) → FitsFile file (selection_for site asked file)
selection-fits site asked None = refl
selection-fits site asked (Some file) = selection_for-within site asked file

-- an answer out of a site within its limits has at most so many bytes
pub answer_of-short : (site : SiteState) (asked : Asked) (last : Bool) → IsWithinLimits site.files → length (text_of (answer_of site asked last)) ≤ text_limit
unfolding request_answer IsShort
answer_of-short site (request asked) last within = response-short _ _ _ _ _ _ within (subject-short site asked within) (selection-fits site asked (subject_for site asked))
answer_of-short site not_request last within = response-short _ _ _ _ _ _ within tt refl
answer_of-short site too_long last within = response-short _ _ _ _ _ _ within tt refl
