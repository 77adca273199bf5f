-- A head that is written line by line.
use Rattle.std.proofs.Common.{◌≡◌, ◌+◌, ◌≤◌, ℕ, Bool, true, List, [], ◌∷◌, ◌++◌, length, sym, ap, subst, ◌∙◌, append_assoc, append-nil, length-append, arith, Option, Some, None}
use Rattle.std.proofs.lemmas.Grind.{flat_map-append}
use Rattle.std.specs.Prelude.{codes, decimal}
use Rattle.httpdate.specs.declared.date.HttpDate.{HttpDate}
use Rattle.sws_site.specs.declared.heads.ContentRange.{ContentRange}
use Rattle.sws_site.specs.ResponseHeads.{ResponseHead, head_text, lines_text, line_end, server_line, connection_lines, date_lines, last_modified_lines, cache_lines, allow_lines, range_text, range_lines, media_type_and_len_lines, content_lines}
use Rattle.sws_site.specs.Statuses.{Row, row_of}
use Rattle.sws_site.proofs.HeadLengthsLemmas.{length-head_text}

lines_text-append : (a b : List (List ℕ)) → lines_text (a ++ b) ≡ lines_text a ++ lines_text b
lines_text-append a b = flat_map-append (λ line. line ++ line_end) a b

-- six groups of lines
lines_text-groups : (a b c d e f : List (List ℕ)) → lines_text (a ++ b ++ c ++ d ++ e ++ f) ≡ lines_text a ++ lines_text b ++ lines_text c ++ lines_text d ++ lines_text e ++ lines_text f
lines_text-groups a b c d e f =
    lines_text-append (a ++ b ++ c ++ d ++ e) f
    ∙ ap (λ (x : List ℕ). x ++ lines_text f) (
    lines_text-append (a ++ b ++ c ++ d) e
    ∙ ap (λ (x : List ℕ). x ++ lines_text e) (
    lines_text-append (a ++ b ++ c) d
    ∙ ap (λ (x : List ℕ). x ++ lines_text d) (lines_text-append (a ++ b) c ∙ ap (λ (x : List ℕ). x ++ lines_text c) (lines_text-append a b))))

-- one line more, of two parts
pub one_line : (new old name value text : List ℕ) → new ≡ old ++ ((name ++ value) ++ line_end) → value ≡ text
    → new ≡ old ++ lines_text ((name ++ text) ∷ [])
one_line new old name value text is same =
    is ∙ ap (λ (v : List ℕ). old ++ ((name ++ v) ++ line_end)) same
    ∙ ap (λ (line : List ℕ). old ++ line) (sym (append-nil ((name ++ text) ++ line_end)))

-- the line of the date, where there is one
pub date_line : (new old : List ℕ) (is_dated : Bool) (given : Option HttpDate) (date : HttpDate) → is_dated ≡ true → given ≡ Some date
    → new ≡ old ++ lines_text (date_lines (Some date)) → new ≡ old ++ lines_text (last_modified_lines is_dated given)
date_line new old is_dated given date dated is line =
    line
    ∙ sym (ap (λ (d : Option HttpDate). old ++ lines_text (last_modified_lines true d)) is)
    ∙ sym (ap (λ (b : Bool). old ++ lines_text (last_modified_lines b given)) dated)

one_more : (old a b end : List ℕ) → ((old ++ a) ++ b) ++ end ≡ old ++ (((a ++ b) ++ end) ++ [])
one_more old a b end = simp (append_assoc, append-nil)

two_more : (old a b d end : List ℕ) → (((old ++ (a ++ end)) ++ b) ++ d) ++ end ≡ old ++ ((a ++ end) ++ (((b ++ d) ++ end) ++ []))
two_more old a b d end = simp (append_assoc, append-nil)

-- the line of the range, where there is one
pub range_line : (new second first old : List ℕ) (has_range : Bool) (given : Option ContentRange) (range : ContentRange) → has_range ≡ true → given ≡ Some range
    → first ≡ old ++ codes "Content-Range: bytes " → second ≡ first ++ range_text range → new ≡ second ++ line_end
    → new ≡ old ++ lines_text (range_lines has_range given)
range_line new second first old has_range given range has is is_first is_second is_new =
    is_new
    ∙ ap (λ (x : List ℕ). x ++ line_end) (is_second ∙ ap (λ (x : List ℕ). x ++ range_text range) is_first)
    ∙ one_more old (codes "Content-Range: bytes ") (range_text range) line_end
    ∙ sym (ap (λ (d : Option ContentRange). old ++ lines_text (range_lines true d)) is)
    ∙ sym (ap (λ (b : Bool). old ++ lines_text (range_lines b given)) has)

-- the line of the seconds, where there is one
pub age_line : (new second first old : List ℕ) (is_dated : Bool) (given : Option ℕ) (seconds : ℕ) → is_dated ≡ true → given ≡ Some seconds
    → first ≡ old ++ codes "Cache-Control: max-age=" → second ≡ first ++ decimal seconds → new ≡ second ++ line_end
    → new ≡ old ++ lines_text (cache_lines is_dated given)
age_line new second first old is_dated given seconds dated is is_first is_second is_new =
    is_new
    ∙ ap (λ (x : List ℕ). x ++ line_end) (is_second ∙ ap (λ (x : List ℕ). x ++ decimal seconds) is_first)
    ∙ one_more old (codes "Cache-Control: max-age=") (decimal seconds) line_end
    ∙ sym (ap (λ (d : Option ℕ). old ++ lines_text (cache_lines true d)) is)
    ∙ sym (ap (λ (b : Bool). old ++ lines_text (cache_lines b given)) dated)

-- the two lines of a content
pub content_text : (new fourth third second old media_type : List ℕ) (len : ℕ)
    → second ≡ old ++ ((codes "Content-Type: " ++ media_type) ++ line_end) → third ≡ second ++ codes "Content-Length: " → fourth ≡ third ++ decimal len
    → new ≡ fourth ++ line_end → new ≡ old ++ lines_text (media_type_and_len_lines media_type len)
content_text new fourth third second old media_type len is_second is_third is_fourth is_new =
    is_new
    ∙ ap (λ (x : List ℕ). x ++ line_end) (is_fourth ∙ ap (λ (x : List ℕ). x ++ decimal len) (is_third ∙ ap (λ (x : List ℕ). x ++ codes "Content-Length: ") is_second))
    ∙ two_more old (codes "Content-Type: " ++ media_type) (codes "Content-Length: ") (decimal len) line_end

-- the lines of a head by the row of its status
abbrev lines_by : ResponseHead → Row → List ℕ
lines_by head row =
    ((((codes "HTTP/1.1 " ++ row.text) ++ line_end) ++ ((server_line ++ line_end) ++ lines_text (connection_lines head.closes head.says_kept
    ++ last_modified_lines row.is_dated head.date ++ cache_lines row.is_dated head.max_age ++ allow_lines row.lists_methods
    ++ range_lines row.has_range head.range ++ content_lines row.body head.media_type head.len))) ++ head.headers) ++ line_end

-- what is added one after another
added : (a b c d k e f g h whole status server connection modified cache allow range content headers : List ℕ)
    → a ≡ status → b ≡ a ++ server → c ≡ b ++ connection → d ≡ c ++ modified → k ≡ d ++ cache → e ≡ k ++ allow → f ≡ e ++ range → g ≡ f ++ content
    → h ≡ g ++ headers → whole ≡ h ++ line_end
    → whole ≡ ((status ++ (server ++ (connection ++ modified ++ cache ++ allow ++ range ++ content))) ++ headers) ++ line_end
added a b c d k e f g h whole status server connection modified cache allow range content headers is_a is_b is_c is_d is_k is_e is_f is_g is_h is_whole =
    is_whole ∙ ap (λ (x : List ℕ). x ++ line_end) (
    is_h ∙ ap (λ (x : List ℕ). x ++ headers) (
    is_g ∙ ap (λ (x : List ℕ). x ++ content) (
    is_f ∙ ap (λ (x : List ℕ). x ++ range) (
    is_e ∙ ap (λ (x : List ℕ). x ++ allow) (
    is_k ∙ ap (λ (x : List ℕ). x ++ cache) (
    is_d ∙ ap (λ (x : List ℕ). x ++ modified) (
    is_c ∙ ap (λ (x : List ℕ). x ++ connection) (
    is_b ∙ ap (λ (x : List ℕ). x ++ server) is_a))))))
    ∙ regroup))
  where
    regroup : (((((((status ++ server) ++ connection) ++ modified) ++ cache) ++ allow) ++ range) ++ content)
        ≡ status ++ (server ++ (connection ++ modified ++ cache ++ allow ++ range ++ content))
    regroup = simp append_assoc

-- the lines of a head, one group after another, by the row of its status
pub head_text-parts : (head : ResponseHead) (row : Row) (a b c d k e f g h whole : List ℕ) → row ≡ row_of head.status
    → a ≡ (codes "HTTP/1.1 " ++ row.text) ++ line_end
    → b ≡ a ++ ((codes "Server: " ++ codes "sws") ++ line_end)
    → c ≡ b ++ lines_text (connection_lines head.closes head.says_kept)
    → d ≡ c ++ lines_text (last_modified_lines row.is_dated head.date)
    → k ≡ d ++ lines_text (cache_lines row.is_dated head.max_age)
    → e ≡ k ++ lines_text (allow_lines row.lists_methods)
    → f ≡ e ++ lines_text (range_lines row.has_range head.range)
    → g ≡ f ++ lines_text (content_lines row.body head.media_type head.len)
    → h ≡ g ++ head.headers
    → whole ≡ h ++ line_end
    → whole ≡ head_text (record head { location = None })
unfolding head_text
head_text-parts head row a b c d k e f g h whole is_row is_a is_b is_c is_d is_k is_e is_f is_g is_h is_whole =
    added a b c d k e f g h whole ((codes "HTTP/1.1 " ++ row.text) ++ line_end) (server_line ++ line_end)
    (lines_text (connection_lines head.closes head.says_kept)) (lines_text modified) (lines_text cache) (lines_text allow) (lines_text range) (lines_text content) head.headers
    is_a is_b is_c is_d is_k is_e is_f is_g is_h is_whole
    ∙ ap (λ (x : List ℕ). ((((codes "HTTP/1.1 " ++ row.text) ++ line_end) ++ ((server_line ++ line_end) ++ x)) ++ head.headers) ++ line_end) (sym (
    lines_text-groups (connection_lines head.closes head.says_kept) modified cache allow range content))
    ∙ ap (lines_by head) is_row
  where
    modified : List (List ℕ)
    modified = last_modified_lines row.is_dated head.date

    cache : List (List ℕ)
    cache = cache_lines row.is_dated head.max_age

    allow : List (List ℕ)
    allow = allow_lines row.lists_methods

    range : List (List ℕ)
    range = range_lines row.has_range head.range

    content : List (List ℕ)
    content = content_lines row.body head.media_type head.len

-- ---- the room for it

-- what is added to a text makes it longer
pub length-added : (new old more : List ℕ) → new ≡ old ++ more → length new ≡ length old + length more
length-added new old more is = ap length is ∙ length-append old more

-- a head that has room has it for all its lines, by the row of its status
pub head-fits : (head : ResponseHead) (row : Row) → row ≡ row_of head.status → length (head_text head) ≤ 1360
    → length ((codes "HTTP/1.1 " ++ row.text) ++ line_end) + length ((codes "Server: " ++ codes "sws") ++ line_end) + length (lines_text (connection_lines head.closes head.says_kept))
    + length (lines_text (last_modified_lines row.is_dated head.date)) + length (lines_text (allow_lines row.lists_methods))
    + length (lines_text (range_lines row.has_range head.range)) + length (lines_text (content_lines row.body head.media_type head.len))
    + length (lines_text (cache_lines row.is_dated head.max_age)) + length head.headers + 2 ≤ 1360
head-fits head row is fits = subst Fits (sym is) (omega (arith, length-head_text head))
  where
    Fits : Row → Type 0
    Fits row =
        length ((codes "HTTP/1.1 " ++ row.text) ++ line_end) + length ((codes "Server: " ++ codes "sws") ++ line_end) + length (lines_text (connection_lines head.closes head.says_kept))
        + length (lines_text (last_modified_lines row.is_dated head.date)) + length (lines_text (allow_lines row.lists_methods))
        + length (lines_text (range_lines row.has_range head.range)) + length (lines_text (content_lines row.body head.media_type head.len))
        + length (lines_text (cache_lines row.is_dated head.max_age)) + length head.headers + 2 ≤ 1360
