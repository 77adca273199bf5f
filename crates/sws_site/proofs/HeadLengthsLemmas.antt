-- How long a head is at most.
use Rattle.std.specs.Prelude.{◌≡◌, ℕ, ◌+◌, ◌-◌, ◌^◌, ◌<◌, ◌≤◌, ◌&&◌, nat_le, Bool, true, false, if◌then◌else◌, List, [], ◌∷◌, ◌++◌, length, get_or, codes, decimal, Option, Some, None, ⊤}
use Rattle.std.specs.List.{list_all}
use Rattle.std.specs.Option.{ForSome}
use Rattle.std.specs.Str.{str_eq_ignore_ascii_case}
use Rattle.std.proofs.Common.{zero, suc, refl, ap, ◌∙◌, arith, length-append, lit≤, lit<, leb-true}
use Rattle.std.proofs.lemmas.List.Concat.{flat_map-append}
use Rattle.std.proofs.lemmas.Fmt.{length-decimal-le}
use Rattle.httpdate.specs.declared.date.HttpDate.{HttpDate}
use Rattle.httpdate.specs.Date.{date_text}
use Rattle.httpdate.specs.Text.{day_name, month_name}
use Rattle.sws_site.specs.declared.statuses.Status.{Status}
use Rattle.sws_site.specs.declared.statuses.Status.TheVariants.{Success, PartialContent, MovedPermanently, NotModified, BadRequest, NotFound, MethodNotAllowed, RangeNotSatisfiable, HeaderFieldsTooLarge, NotImplemented}
use Rattle.sws_site.specs.declared.heads.ContentRange.{ContentRange}
use Rattle.sws_site.specs.declared.heads.ContentRange.TheVariants.{Selected, NoSuch}
use Rattle.sws_site.specs.Statuses.{row_of}
use Rattle.sws_site.specs.Limits.{size_limit}
use Rattle.sws_site.specs.declared.options.SiteOptions.{SiteOptions}
use Rattle.sws_site.specs.ContentTypes.{media_types, text_types, data_types, image_types, audio_types, video_types, archive_types, document_types, program_types, type_in, type_or, more_type_or, extension_of, content_type, known_type_of, media_type_of}
use Rattle.sws_site.specs.ResponseHeads.{ResponseHead, status_line, server_line, location_lines, connection_lines, date_lines, last_modified_lines, max_age_lines, cache_lines, allow_lines, content_range_lines, range_lines, media_type_and_len_lines, content_lines, head_lines, line_end, lines_text, head_text}

-- ---- words out of lists

both : (a b : Bool) → (a && b) ≡ true → (a ≡ true) × (b ≡ true)
both true b e = (refl, e)
both false b e = absurd (cc)

-- one of the words, or none
chosen : (words : List (List ℕ)) (n limit : ℕ) → list_all (λ word. nat_le (length word) limit) words ≡ true → length (get_or words n []) ≤ limit
chosen [] n limit short = omega arith
chosen (word ∷ words) zero limit short =
    leb-true (length word) limit (both (nat_le (length word) limit) (list_all (λ word. nat_le (length word) limit) words) short).0
chosen (word ∷ words) (suc n) limit short =
    chosen words n limit (both (nat_le (length word) limit) (list_all (λ word. nat_le (length word) limit) words) short).1

type_in-short : (rows : List (List ℕ × List ℕ)) (extension : List ℕ) → list_all (λ row. nat_le (length row.1) 80) rows ≡ true → length (type_in rows extension) ≤ 80
type_in-short [] extension short = lit≤ tt
type_in-short (row ∷ rows) extension short =
    by_test (str_eq_ignore_ascii_case extension row.0) (type_in-short rows extension (parts.1))
  where
    parts : (nat_le (length row.1) 80 ≡ true) × (list_all (λ row. nat_le (length row.1) 80) rows ≡ true)
    parts = both (nat_le (length row.1) 80) (list_all (λ row. nat_le (length row.1) 80) rows) short

    by_test : (t : Bool) → length (type_in rows extension) ≤ 80 → length (if t then row.1 else type_in rows extension) ≤ 80
    by_test true later = leb-true (length row.1) 80 parts.0
    by_test false later = later

-- the media type of a file
pub content_type-short : (name : List ℕ) → length (content_type name) ≤ 80
unfolding content_type media_types
content_type-short name = type_in-short media_types (extension_of name) refl

-- nor is it where the site knows more types
pub type_or-short : (rows : List (List ℕ × List ℕ)) (otherwise extension : List ℕ) → list_all (λ row. nat_le (length row.1) 80) rows ≡ true → length otherwise ≤ 80
    → length (type_or rows otherwise extension) ≤ 80
type_or-short [] otherwise extension short few = few
type_or-short (row ∷ rows) otherwise extension short few =
    by_test (str_eq_ignore_ascii_case extension row.0) (type_or-short rows otherwise extension (parts.1) few)
  where
    parts : (nat_le (length row.1) 80 ≡ true) × (list_all (λ row. nat_le (length row.1) 80) rows ≡ true)
    parts = both (nat_le (length row.1) 80) (list_all (λ row. nat_le (length row.1) 80) rows) short

    by_test : (t : Bool) → length (type_or rows otherwise extension) ≤ 80 → length (if t then row.1 else type_or rows otherwise extension) ≤ 80
    by_test true later = leb-true (length row.1) 80 parts.0
    by_test false later = later

program_type-short : (otherwise extension : List ℕ) → length otherwise ≤ 80 → length (type_or program_types otherwise extension) ≤ 80
unfolding program_types
program_type-short otherwise extension few = type_or-short program_types otherwise extension refl few

document_type-short : (otherwise extension : List ℕ) → length otherwise ≤ 80 → length (type_or document_types otherwise extension) ≤ 80
unfolding document_types
document_type-short otherwise extension few = type_or-short document_types otherwise extension refl few

archive_type-short : (otherwise extension : List ℕ) → length otherwise ≤ 80 → length (type_or archive_types otherwise extension) ≤ 80
unfolding archive_types
archive_type-short otherwise extension few = type_or-short archive_types otherwise extension refl few

video_type-short : (otherwise extension : List ℕ) → length otherwise ≤ 80 → length (type_or video_types otherwise extension) ≤ 80
unfolding video_types
video_type-short otherwise extension few = type_or-short video_types otherwise extension refl few

audio_type-short : (otherwise extension : List ℕ) → length otherwise ≤ 80 → length (type_or audio_types otherwise extension) ≤ 80
unfolding audio_types
audio_type-short otherwise extension few = type_or-short audio_types otherwise extension refl few

image_type-short : (otherwise extension : List ℕ) → length otherwise ≤ 80 → length (type_or image_types otherwise extension) ≤ 80
unfolding image_types
image_type-short otherwise extension few = type_or-short image_types otherwise extension refl few

data_type-short : (otherwise extension : List ℕ) → length otherwise ≤ 80 → length (type_or data_types otherwise extension) ≤ 80
unfolding data_types
data_type-short otherwise extension few = type_or-short data_types otherwise extension refl few

text_type-short : (otherwise extension : List ℕ) → length otherwise ≤ 80 → length (type_or text_types otherwise extension) ≤ 80
unfolding text_types
text_type-short otherwise extension few = type_or-short text_types otherwise extension refl few

pub more_type-short : (otherwise extension : List ℕ) → length otherwise ≤ 80 → length (more_type_or otherwise extension) ≤ 80
unfolding more_type_or
more_type-short otherwise extension few =
    text_type-short _ extension (data_type-short _ extension (image_type-short _ extension (audio_type-short _ extension (video_type-short _ extension (archive_type-short _ extension (document_type-short _ extension (program_type-short _ extension (few))))))))

known_type-short : (knows_more : Bool) (name : List ℕ) → length (known_type_of knows_more name) ≤ 80
known_type-short true name = more_type-short (content_type name) (extension_of name) (content_type-short name)
known_type-short false name = content_type-short name

pub media_type_of-short : (options : SiteOptions) (name : List ℕ) → length (media_type_of options name) ≤ 80
media_type_of-short options name =
    type_or-short options.added.types (known_type_of options.knows_more_types name) (extension_of name) options.added.short_types (known_type-short options.knows_more_types name)

day_name-short : (day : ℕ) → length (day_name day) ≤ 3
day_name-short day =
    chosen (codes "Mon" ∷ codes "Tue" ∷ codes "Wed" ∷ codes "Thu" ∷ codes "Fri" ∷ codes "Sat" ∷ codes "Sun" ∷ []) (day - 1) 3 refl

month_name-short : (month : ℕ) → length (month_name month) ≤ 3
month_name-short month =
    chosen (codes "Jan" ∷ codes "Feb" ∷ codes "Mar" ∷ codes "Apr" ∷ codes "May" ∷ codes "Jun"
    ∷ codes "Jul" ∷ codes "Aug" ∷ codes "Sep" ∷ codes "Oct" ∷ codes "Nov" ∷ codes "Dec" ∷ []) (month - 1) 3 refl

date_text-short : (date : HttpDate) → length (date_text date) ≤ 29
date_text-short date =
    let day = day_name-short date.parts.wday in
    let month = month_name-short date.parts.mon in
    simp length-append (omega (arith, day, month))

-- ---- the lines of a head

lines-append : (a b : List (List ℕ)) → length (lines_text (a ++ b)) ≡ length (lines_text a) + length (lines_text b)
lines-append a b = ap length (flat_map-append (λ line. line ++ line_end) a b) ∙ length-append (lines_text a) (lines_text b)

connection-short : (closes says_kept : Bool) → length (lines_text (connection_lines closes says_kept)) ≤ 24
connection-short true says_kept = lit≤ tt
connection-short false true = lit≤ tt
connection-short false false = lit≤ tt

date_line-short : (text : List ℕ) → length text ≤ 29 → length (lines_text ((codes "Last-Modified: " ++ text) ∷ [])) ≤ 46
date_line-short text short = simp length-append (omega arith)

dates-short : (date : Option HttpDate) → length (lines_text (date_lines date)) ≤ 46
dates-short None = lit≤ tt
dates-short (Some date) = date_line-short (date_text date) (date_text-short date)

-- the numbers of a range are those of a file of a site, and so is the length of the content that is sent for it
abbrev pub IsShortRange : Option ContentRange → ℕ → Type 0
IsShortRange None sent = ⊤
IsShortRange (Some (Selected first last len)) sent = (first ≤ size_limit) × (last ≤ size_limit) × (len ≤ size_limit) × (sent ≤ size_limit)
IsShortRange (Some (NoSuch len)) sent = (len ≤ size_limit) × (sent ≤ size_limit)

digits-short : (n : ℕ) → n ≤ size_limit → length (decimal n) ≤ 10
digits-short n small = length-decimal-le 10 n (lit< tt) (omega arith) (omega arith)

range-short : (range : Option ContentRange) (sent : ℕ) → IsShortRange range sent → length (lines_text (content_range_lines range)) ≤ 55
range-short None sent short = lit≤ tt
range-short (Some (Selected first last len)) sent short =
    let a = digits-short first short.0 in
    let b = digits-short last short.1 in
    let c = digits-short len short.2 in
    simp length-append (omega (arith, a, b, c))
range-short (Some (NoSuch len)) sent short =
    let a = digits-short len short.0 in
    simp length-append (omega (arith, a))

media_type_and_len-short : (media_type : List ℕ) (len : ℕ) → length media_type ≤ 80 → len < 2 ^ 64 → length (lines_text (media_type_and_len_lines media_type len)) ≤ 134
media_type_and_len-short media_type len short few =
    let digits = length-decimal-le 20 len (lit< tt) (omega arith) few in simp length-append (omega (arith, digits))

few_digits-short : (media_type : List ℕ) (len : ℕ) → length media_type ≤ 80 → len ≤ size_limit → length (lines_text (media_type_and_len_lines media_type len)) ≤ 124
few_digits-short media_type len short few =
    let digits = digits-short len few in simp length-append (omega (arith, digits))

-- what is said of a range and of the content
range_and_content-short : (range : Option ContentRange) (media_type : List ℕ) (len : ℕ) → IsShortRange range len → length media_type ≤ 80 → len < 2 ^ 64
    → length (lines_text (content_range_lines range)) + length (lines_text (media_type_and_len_lines media_type len)) ≤ 179
range_and_content-short None media_type len range short few =
    let none : length (lines_text (content_range_lines None)) ≤ 0 = lit≤ tt in omega (arith, none, media_type_and_len-short media_type len short few)
range_and_content-short (Some (Selected first last all)) media_type len range short few =
    omega (arith, range-short (Some (Selected first last all)) len range, few_digits-short media_type len short range.3)
range_and_content-short (Some (NoSuch all)) media_type len range short few =
    omega (arith, range-short (Some (NoSuch all)) len range, few_digits-short media_type len short range.1)

-- the seconds have at most 32 bits
max_age-short : (max_age : Option ℕ) → ForSome max_age (λ seconds. seconds < 2 ^ 32) → length (lines_text (max_age_lines max_age)) ≤ 35
max_age-short None short = lit≤ tt
max_age-short (Some seconds) short =
    let few = short seconds refl in let digits = digits-short seconds (omega arith) in simp length-append (omega (arith, digits))

-- a head is as long as its groups of lines together, and the lines that the site adds
pub length-head_text : (head : ResponseHead)
    → length (head_text head)
    ≡ length (status_line head.status ++ line_end) + length (server_line ++ line_end) + length (lines_text (location_lines head.location))
    + length (lines_text (connection_lines head.closes head.says_kept))
    + length (lines_text (last_modified_lines (row_of head.status).is_dated head.date)) + length (lines_text (allow_lines (row_of head.status).lists_methods))
    + length (lines_text (range_lines (row_of head.status).has_range head.range)) + length (lines_text (content_lines (row_of head.status).body head.media_type head.len))
    + length (lines_text (cache_lines (row_of head.status).is_dated head.max_age)) + length head.headers + 2
unfolding head_text
length-head_text head =
    let l = location_lines head.location in
    let a = connection_lines head.closes head.says_kept in
    let b = last_modified_lines (row_of head.status).is_dated head.date in
    let k = cache_lines (row_of head.status).is_dated head.max_age in
    let c = allow_lines (row_of head.status).lists_methods in
    let d = range_lines (row_of head.status).has_range head.range in
    let e = content_lines (row_of head.status).body head.media_type head.len in
    omega (
      arith,
      length-append (lines_text (head_lines head) ++ head.headers) line_end,
      length-append (lines_text (head_lines head)) head.headers,
      length-append (status_line head.status ++ line_end) ((server_line ++ line_end) ++ lines_text (l ++ a ++ b ++ k ++ c ++ d ++ e)),
      length-append (server_line ++ line_end) (lines_text (l ++ a ++ b ++ k ++ c ++ d ++ e)),
      lines-append (l ++ a ++ b ++ k ++ c ++ d) e,
      lines-append (l ++ a ++ b ++ k ++ c) d,
      lines-append (l ++ a ++ b ++ k) c,
      lines-append (l ++ a ++ b) k,
      lines-append (l ++ a) b,
      lines-append l a,
    )

-- whatever it says, a head is short, but for the line of a location
pub head_text-short : (head : ResponseHead) → length head.media_type ≤ 80 → head.len < 2 ^ 64 → IsShortRange head.range head.len
    → ForSome head.max_age (λ seconds. seconds < 2 ^ 32) → length head.headers ≤ 1024
    → length (head_text head) ≤ 1360 + length (lines_text (location_lines head.location))
head_text-short head media_type few range age headers = by_status head.status
  where
    connection : length (lines_text (connection_lines head.closes head.says_kept)) ≤ 24
    connection = connection-short head.closes head.says_kept

    dates : length (lines_text (date_lines head.date)) ≤ 46
    dates = dates-short head.date

    kept : length (lines_text (max_age_lines head.max_age)) ≤ 35
    kept = max_age-short head.max_age age

    about : length (lines_text (content_range_lines head.range)) ≤ 55
    about = range-short head.range head.len range

    content : length (lines_text (media_type_and_len_lines head.media_type head.len)) ≤ 134
    content = media_type_and_len-short head.media_type head.len media_type few

    range_and_content : length (lines_text (content_range_lines head.range)) + length (lines_text (media_type_and_len_lines head.media_type head.len)) ≤ 179
    range_and_content = range_and_content-short head.range head.media_type head.len range media_type few

    by_status : (status : Status) → length (head_text (record head { status = status })) ≤ 1360 + length (lines_text (location_lines head.location))
    by_status Success =
        let line : length (status_line Success ++ line_end) ≤ 17 = lit≤ tt in
        omega (arith, length-head_text (record head { status = Success }), line, connection, dates, kept, about, content, headers)
    by_status PartialContent =
        let line : length (status_line PartialContent ++ line_end) ≤ 30 = lit≤ tt in
        omega (arith, length-head_text (record head { status = PartialContent }), line, connection, dates, kept, range_and_content, headers)
    by_status MovedPermanently =
        let line : length (status_line MovedPermanently ++ line_end) ≤ 32 = lit≤ tt in
        omega (arith, length-head_text (record head { status = MovedPermanently }), line, connection, dates, kept, about, content, headers)
    by_status NotModified =
        let line : length (status_line NotModified ++ line_end) ≤ 27 = lit≤ tt in
        omega (arith, length-head_text (record head { status = NotModified }), line, connection, dates, kept, about, content, headers)
    by_status BadRequest =
        let line : length (status_line BadRequest ++ line_end) ≤ 26 = lit≤ tt in
        omega (arith, length-head_text (record head { status = BadRequest }), line, connection, dates, kept, about, content, headers)
    by_status NotFound =
        let line : length (status_line NotFound ++ line_end) ≤ 24 = lit≤ tt in
        omega (arith, length-head_text (record head { status = NotFound }), line, connection, dates, kept, about, content, headers)
    by_status MethodNotAllowed =
        let line : length (status_line MethodNotAllowed ++ line_end) ≤ 33 = lit≤ tt in
        omega (arith, length-head_text (record head { status = MethodNotAllowed }), line, connection, dates, kept, about, content, headers)
    by_status RangeNotSatisfiable =
        let line : length (status_line RangeNotSatisfiable ++ line_end) ≤ 36 = lit≤ tt in
        omega (arith, length-head_text (record head { status = RangeNotSatisfiable }), line, connection, dates, kept, about, content, headers)
    by_status HeaderFieldsTooLarge =
        let line : length (status_line HeaderFieldsTooLarge ++ line_end) ≤ 46 = lit≤ tt in
        omega (arith, length-head_text (record head { status = HeaderFieldsTooLarge }), line, connection, dates, kept, about, content, headers)
    by_status NotImplemented =
        let line : length (status_line NotImplemented ++ line_end) ≤ 30 = lit≤ tt in
        omega (arith, length-head_text (record head { status = NotImplemented }), line, connection, dates, kept, about, content, headers)
