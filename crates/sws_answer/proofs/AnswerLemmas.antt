-- The responses of each status.
use Rattle.std.proofs.Common.{◌≡◌, ℕ, Bool, true, false, List, [], drop, option_map, subst, refl, sym, ap, ◌∙◌, Option, Some, None}
use Rattle.std.specs.Prelude.{if◌then◌else◌, IsTrue, not, ◌||◌, ◌∷◌, length, is_none, option_and_then}
use Rattle.std.specs.Option.{option_or}
use Rattle.sws_request.specs.Request.{Request, IsRequest, IsNoRequest}
use Rattle.sws_request.proofs.RequestInLemmas.{request_in-request, request_in-none}
use Rattle.sws_site.specs.Files.{File, file_named}
use Rattle.sws_site.specs.Site.{SiteState}
use Rattle.sws_answer.specs.Targets.{path_and_query, name_of, name_said_by, path_of}
use Rattle.sws_answer.proofs.TargetLemmas.{name_of-path}
use Rattle.sws_answer.specs.declared.answers.Answer.{Answer as Sent}
use Rattle.sws_answer.specs.Conditions.{is_unmodified}
use Rattle.sws_answer.specs.Closing.{is_closing}
use Rattle.sws_site.specs.declared.statuses.Status.{Status}
use Rattle.sws_site.specs.declared.statuses.Status.TheVariants.{Success, PartialContent, MovedPermanently, NotModified, BadRequest, NotFound, MethodNotAllowed, RangeNotSatisfiable, HeaderFieldsTooLarge, NotImplemented}
use Rattle.sws_site.specs.Statuses.{row_of}
use Rattle.sws_site.specs.ResponseHeads.{head_text}
use Rattle.sws_site.specs.Fixed.{refusal_head, refusal_body, is_fixed}
use Rattle.sws_site.specs.Folders.{folder_index}
use Rattle.sws_answer.specs.Asked.{request, not_request, asked_in, asked_by}
use Rattle.sws_answer.specs.Cases.{is_malformed, is_one_of, other_methods, file_methods, file_for, folder_for, subject_for, first_case, request_status}
use Rattle.sws_answer.specs.Answers.{Answer, response, request_answer, is_head_request}
use Rattle.sws_answer.specs.FileAnswers.{name_answer, file_answer, status_by}
use Rattle.sws_answer.specs.declared.ranges.Selection.{Selection}
use Rattle.sws_answer.specs.declared.ranges.Selection.TheVariants.{Whole, Part, Unsatisfied}
use Rattle.sws_answer.specs.Ranges.{selection_in, selection_for, is_part, is_unsatisfied}
use Rattle.sws_answer.specs.AnswerValues.{Sends}

-- the head and the body of a refusal
pub response-refusal_head : (site : SiteState) (status : Status) (closes is_head : Bool) → IsTrue (is_fixed status)
    → refusal_head site status closes ≡ (response site status None Whole closes is_head).head
unfolding response refusal_head head_text
response-refusal_head site Success closes is_head refuses = (let never : false ≡ true = refuses in absurd (cc))
response-refusal_head site PartialContent closes is_head refuses = (let never : false ≡ true = refuses in absurd (cc))
response-refusal_head site MovedPermanently closes is_head refuses = (let never : false ≡ true = refuses in absurd (cc))
response-refusal_head site NotModified closes is_head refuses = (let never : false ≡ true = refuses in absurd (cc))
response-refusal_head site BadRequest closes is_head refuses = refl
response-refusal_head site NotFound closes is_head refuses = refl
response-refusal_head site MethodNotAllowed closes is_head refuses = refl
response-refusal_head site RangeNotSatisfiable closes is_head refuses = (let never : false ≡ true = refuses in absurd (cc))
response-refusal_head site HeaderFieldsTooLarge closes is_head refuses = refl
response-refusal_head site NotImplemented closes is_head refuses = refl

pub response-refusal_body : (site : SiteState) (status : Status) (closes is_head : Bool) → IsTrue (is_fixed status)
    → (if is_head then [] else refusal_body site status) ≡ (response site status None Whole closes is_head).body
unfolding response refusal_body
response-refusal_body site Success closes is_head refuses = (let never : false ≡ true = refuses in absurd (cc))
response-refusal_body site PartialContent closes is_head refuses = (let never : false ≡ true = refuses in absurd (cc))
response-refusal_body site MovedPermanently closes is_head refuses = (let never : false ≡ true = refuses in absurd (cc))
response-refusal_body site NotModified closes is_head refuses = (let never : false ≡ true = refuses in absurd (cc))
response-refusal_body site BadRequest closes is_head refuses = refl
response-refusal_body site NotFound closes is_head refuses = refl
response-refusal_body site MethodNotAllowed closes is_head refuses = refl
response-refusal_body site RangeNotSatisfiable closes is_head refuses = (let never : false ≡ true = refuses in absurd (cc))
response-refusal_body site HeaderFieldsTooLarge closes is_head refuses = refl
response-refusal_body site NotImplemented closes is_head refuses = refl

-- ---- the table of cases

-- the status by the tests of the cases
abbrev table : Bool → Bool → Bool → Bool → Bool → Bool → Bool → Bool → Bool → Status
table host other file form found moved modified nothing part =
    first_case ((host, BadRequest) ∷ (other, MethodNotAllowed) ∷ (file, NotImplemented) ∷ (form, BadRequest) ∷ (found, NotFound) ∷ (moved, MovedPermanently) ∷ (modified, NotModified)
    ∷ (nothing, RangeNotSatisfiable) ∷ (part, PartialContent) ∷ []) Success

-- what the request selects of the file that it names
abbrev selected : SiteState → Request → Selection
selected site asked = selection_for site asked (file_for site asked)

-- what it selects of the file that its answer is about
abbrev chosen : SiteState → Request → Selection
chosen site asked = selection_for site asked (subject_for site asked)

-- the tests behind that of the target
abbrev by_target : SiteState → Request → Bool → Status
by_target site asked form =
    table false false false form (is_none (subject_for site asked)) (is_none (file_for site asked)) (is_unmodified site.date asked.fields) (is_unsatisfied (selected site asked)) (is_part (selected site asked))

answer_at : (site : SiteState) (asked : Request) (last : Bool) (status : Status) → request_status site asked ≡ status
    → request_answer site asked last
    ≡ response site status (subject_for site asked) (chosen site asked) ((row_of status).closes || is_closing site.options asked || last) (is_head_request asked)
unfolding request_answer
answer_at site asked last status e =
    ap (λ s. response site s (subject_for site asked) (chosen site asked) ((row_of s).closes || is_closing site.options asked || last) (is_head_request asked)) e

-- a refusal is the same whatever the request names or selects
unnamed : (site : SiteState) (status : Status) (file : Option File) (selection : Selection) (closes is_head : Bool) → IsTrue (is_fixed status)
    → response site status file selection closes is_head ≡ response site status None Whole closes is_head
unfolding response head_text
unnamed site Success file selection closes is_head refuses = (let never : false ≡ true = refuses in absurd (cc))
unnamed site PartialContent file selection closes is_head refuses = (let never : false ≡ true = refuses in absurd (cc))
unnamed site MovedPermanently file selection closes is_head refuses = (let never : false ≡ true = refuses in absurd (cc))
unnamed site NotModified file selection closes is_head refuses = (let never : false ≡ true = refuses in absurd (cc))
unnamed site BadRequest file selection closes is_head refuses = refl
unnamed site NotFound file selection closes is_head refuses = refl
unnamed site MethodNotAllowed file selection closes is_head refuses = refl
unnamed site RangeNotSatisfiable file selection closes is_head refuses = (let never : false ≡ true = refuses in absurd (cc))
unnamed site HeaderFieldsTooLarge file selection closes is_head refuses = refl
unnamed site NotImplemented file selection closes is_head refuses = refl

-- without the one field Host
pub answer-no_host : (site : SiteState) (asked : Request) (last : Bool) → is_malformed site asked ≡ true
    → response site BadRequest None Whole true (is_head_request asked) ≡ request_answer site asked last
unfolding request_status
answer-no_host site asked last host = sym (
    answer_at site asked last BadRequest (ap (λ t. table t (is_one_of other_methods asked.method) (not (is_one_of file_methods asked.method)) (is_none (path_and_query asked.target)) (is_none (subject_for site asked)) (is_none (file_for site asked)) (is_unmodified site.date asked.fields) (is_unsatisfied (selected site asked)) (is_part (selected site asked))) host)
    ∙ unnamed site BadRequest (subject_for site asked) (chosen site asked) true (is_head_request asked) refl)

-- with a known method that a file has not
pub answer-other_method : (site : SiteState) (asked : Request) (last : Bool) → is_malformed site asked ≡ false → is_one_of other_methods asked.method ≡ true
    → response site MethodNotAllowed None Whole (is_closing site.options asked || last) (is_head_request asked) ≡ request_answer site asked last
unfolding request_status
answer-other_method site asked last host other = sym (
    answer_at site asked last MethodNotAllowed (
    ap (λ t. table t (is_one_of other_methods asked.method) (not (is_one_of file_methods asked.method)) (is_none (path_and_query asked.target)) (is_none (subject_for site asked)) (is_none (file_for site asked)) (is_unmodified site.date asked.fields) (is_unsatisfied (selected site asked)) (is_part (selected site asked))) host
    ∙ ap (λ t. table false t (not (is_one_of file_methods asked.method)) (is_none (path_and_query asked.target)) (is_none (subject_for site asked)) (is_none (file_for site asked)) (is_unmodified site.date asked.fields) (is_unsatisfied (selected site asked)) (is_part (selected site asked))) other)
    ∙ unnamed site MethodNotAllowed (subject_for site asked) (chosen site asked) (is_closing site.options asked || last) (is_head_request asked) refl)

-- the tests of the methods are passed
status_from_file : (site : SiteState) (asked : Request) → is_malformed site asked ≡ false → is_one_of other_methods asked.method ≡ false
    → request_status site asked
    ≡ table false false (not (is_one_of file_methods asked.method)) (is_none (path_and_query asked.target)) (is_none (subject_for site asked)) (is_none (file_for site asked)) (is_unmodified site.date asked.fields) (is_unsatisfied (selected site asked)) (is_part (selected site asked))
unfolding request_status
status_from_file site asked host other =
    ap (λ t. table t (is_one_of other_methods asked.method) (not (is_one_of file_methods asked.method)) (is_none (path_and_query asked.target)) (is_none (subject_for site asked)) (is_none (file_for site asked)) (is_unmodified site.date asked.fields) (is_unsatisfied (selected site asked)) (is_part (selected site asked))) host
    ∙ ap (λ t. table false t (not (is_one_of file_methods asked.method)) (is_none (path_and_query asked.target)) (is_none (subject_for site asked)) (is_none (file_for site asked)) (is_unmodified site.date asked.fields) (is_unsatisfied (selected site asked)) (is_part (selected site asked))) other

-- with an unknown method
pub answer-unknown_method : (site : SiteState) (asked : Request) (last : Bool) → is_malformed site asked ≡ false → is_one_of other_methods asked.method ≡ false → is_one_of file_methods asked.method ≡ false
    → response site NotImplemented None Whole (is_closing site.options asked || last) (is_head_request asked) ≡ request_answer site asked last
answer-unknown_method site asked last host other file = sym (
    answer_at site asked last NotImplemented (
    status_from_file site asked host other
    ∙ ap (λ t. table false false (not t) (is_none (path_and_query asked.target)) (is_none (subject_for site asked)) (is_none (file_for site asked)) (is_unmodified site.date asked.fields) (is_unsatisfied (selected site asked)) (is_part (selected site asked))) file)
    ∙ unnamed site NotImplemented (subject_for site asked) (chosen site asked) (is_closing site.options asked || last) (is_head_request asked) refl)

-- the tests of the target are left
status_from_target : (site : SiteState) (asked : Request) → is_malformed site asked ≡ false → is_one_of other_methods asked.method ≡ false → is_one_of file_methods asked.method ≡ true
    → request_status site asked ≡ by_target site asked (is_none (path_and_query asked.target))
status_from_target site asked host other file =
    status_from_file site asked host other
    ∙ ap (λ t. table false false (not t) (is_none (path_and_query asked.target)) (is_none (subject_for site asked)) (is_none (file_for site asked)) (is_unmodified site.date asked.fields) (is_unsatisfied (selected site asked)) (is_part (selected site asked))) file

-- with a target of another form
pub answer-other_form : (site : SiteState) (asked : Request) (last : Bool) → is_malformed site asked ≡ false → is_one_of other_methods asked.method ≡ false → is_one_of file_methods asked.method ≡ true
    → path_and_query asked.target ≡ None
    → response site BadRequest None Whole true (is_head_request asked) ≡ request_answer site asked last
answer-other_form site asked last host other file form = sym (
    answer_at site asked last BadRequest (status_from_target site asked host other file ∙ ap (λ o. by_target site asked (is_none o)) form)
    ∙ unnamed site BadRequest (subject_for site asked) (chosen site asked) true (is_head_request asked) refl)

-- the status of a request for a file, by what is selected of it
abbrev by_file : SiteState → Request → Option File → Option File → Status
by_file site asked subject file =
    table false false false false (is_none subject) (is_none file) (is_unmodified site.date asked.fields) (is_unsatisfied (selection_for site asked file)) (is_part (selection_for site asked file))

table-file : (modified : Bool) (selection : Selection)
    → table false false false false false false modified (is_unsatisfied selection) (is_part selection) ≡ (if modified then NotModified else status_by selection)
table-file true selection = refl
table-file false Whole = refl
table-file false (Part first last) = refl
table-file false Unsatisfied = refl

-- what a file's response does not close by itself
file_closes : (modified : Bool) (selection : Selection) (closes : Bool)
    → ((row_of (if modified then NotModified else status_by selection)).closes || closes) ≡ closes
file_closes true selection closes = refl
file_closes false Whole closes = refl
file_closes false (Part first last) closes = refl
file_closes false Unsatisfied closes = refl

-- a redirect is the same whatever the request selects of the index
moved : (site : SiteState) (index : File) (selection : Selection) (closes is_head : Bool)
    → response site MovedPermanently (Some index) selection closes is_head ≡ response site MovedPermanently (Some index) Whole closes is_head
unfolding response head_text
moved site index selection closes is_head = refl

-- with a target that names a file
answer-named : (site : SiteState) (asked : Request) (last : Bool) (path name : List ℕ) → is_malformed site asked ≡ false → is_one_of other_methods asked.method ≡ false → is_one_of file_methods asked.method ≡ true
    → path_and_query asked.target ≡ Some path → name_of site.options asked.target ≡ Some name
    → name_answer site asked name (is_closing site.options asked || last) (is_head_request asked) ≡ request_answer site asked last
answer-named site asked last path name host other file form named =
    by_named (file_named name site.files) (folder_index site name) (ap (option_and_then (λ n. file_named n site.files)) named) (ap (option_and_then (folder_index site)) named)
  where
    subject : (found index : Option File) → file_for site asked ≡ found → folder_for site asked ≡ index → subject_for site asked ≡ option_or found index
    subject found index e f = ap (λ o. option_or o (folder_for site asked)) e ∙ ap (option_or found) f

    status : (found index : Option File) → file_for site asked ≡ found → folder_for site asked ≡ index → request_status site asked ≡ by_file site asked (option_or found index) found
    status found index e f =
        status_from_target site asked host other file ∙ ap (λ o. by_target site asked (is_none o)) form
        ∙ ap (λ o. by_file site asked o (file_for site asked)) (subject found index e f) ∙ ap (by_file site asked (option_or found index)) e

    by_named : (found index : Option File) → file_for site asked ≡ found → folder_for site asked ≡ index
        → file_answer site asked found index (is_closing site.options asked || last) (is_head_request asked) ≡ request_answer site asked last
    by_named None None e f = sym (
        answer_at site asked last NotFound (status None None e f)
        ∙ unnamed site NotFound (subject_for site asked) (chosen site asked) (is_closing site.options asked || last) (is_head_request asked) refl)
    by_named None (Some index) e f = sym (
        answer_at site asked last MovedPermanently (status None (Some index) e f)
        ∙ ap (λ o. response site MovedPermanently o (selection_for site asked o) (is_closing site.options asked || last) (is_head_request asked)) (subject None (Some index) e f)
        ∙ moved site index (selection_for site asked (Some index)) (is_closing site.options asked || last) (is_head_request asked))
    by_named (Some found) index e f = sym (
        answer_at site asked last kind (status (Some found) index e f ∙ table-file modified selection)
        ∙ ap (λ o. response site kind o (selection_for site asked o) ((row_of kind).closes || is_closing site.options asked || last) (is_head_request asked)) (subject (Some found) index e f)
        ∙ ap (λ c. response site kind (Some found) selection (c || last) (is_head_request asked)) (file_closes modified selection (is_closing site.options asked)))
      where
        modified : Bool
        modified = is_unmodified site.date asked.fields

        selection : Selection
        selection = selection_in site asked (length found.1)

        kind : Status
        kind = if modified then NotModified else status_by selection

-- ---- what a call sent

pub Sends-with : (sent : Sent) (f : Bool → Bool → Answer) (closes closing is_head headless : Bool) → closes ≡ closing → is_head ≡ headless → Sends sent (f closes is_head) → Sends sent (f closing headless)
Sends-with sent f closes closing is_head headless c h s = subst (λ x. Sends sent (f closing x)) h (subst (λ x. Sends sent (f x is_head)) c s)

mapped_some : (found : Option (List ℕ)) (rest : List ℕ) → Some rest ≡ option_map (drop 1) found → (path : List ℕ) × (found ≡ Some path) × (rest ≡ drop 1 path)
mapped_some None rest e = absurd (cc)
mapped_some (Some path) rest e = (path, refl, (cc))

pub mapped_none : (found : Option (List ℕ)) → None ≡ option_map (drop 1) found → found ≡ None
mapped_none None e = refl
mapped_none (Some path) e = absurd (cc)

-- the target says the path that was answered
pub Sends-named : (sent : Sent) (site : SiteState) (asked : Request) (last closes is_head : Bool) (target rest path : List ℕ)
    → is_malformed site asked ≡ false → is_one_of other_methods asked.method ≡ false → is_one_of file_methods asked.method ≡ true
    → closes ≡ (is_closing site.options asked || last) → is_head ≡ is_head_request asked
    → target ≡ asked.target → Some rest ≡ option_map (drop 1) (path_and_query target) → path ≡ path_of rest
    → Sends sent (name_answer site asked (name_said_by site.options (47 ∷ path)) closes is_head)
    → Sends sent (request_answer site asked last)
Sends-named sent site asked last closes is_head target rest path host other file c h t r p s =
    let at = mapped_some (path_and_query asked.target) rest (r ∙ ap (λ x. option_map (drop 1) (path_and_query x)) t) in
    subst (Sends sent) (answer-named site asked last at.0 (name_said_by site.options (47 ∷ path_of rest)) host other file at.1 (name_of-path site.options asked.target at.0 rest at.1 at.2))
    (Sends-with sent (name_answer site asked (name_said_by site.options (47 ∷ path_of rest))) closes (is_closing site.options asked || last) is_head (is_head_request asked) c h
    (subst (λ x. Sends sent (name_answer site asked (name_said_by site.options (47 ∷ x)) closes is_head)) p s))

-- ---- what a head asks

pub asked_by-request : (bytes : List ℕ) (asked : Request) → IsRequest bytes asked → request asked ≡ asked_by bytes
asked_by-request bytes asked is = sym (ap asked_in (request_in-request bytes asked is))

pub asked_by-none : (bytes : List ℕ) → IsNoRequest bytes → not_request ≡ asked_by bytes
asked_by-none bytes none = sym (ap asked_in (request_in-none bytes none))
