-- The index of a folder that a path names.
use Rattle.std.proofs.Common.{◌≡◌, ◌<◌, ◌+◌, ℕ, Bool, true, false, List, [], ◌++◌, length, length-append, Option, Some, None, option_map, refl, sym, ap, subst, ◌∙◌, arith}
use Rattle.std.specs.Prelude.{if◌then◌else◌}
use Rattle.sws_site.specs.declared.options.SiteOptions.{SiteOptions}
use Rattle.sws_site.specs.ResponseHeads.{head_text}
use Rattle.sws_site.specs.Files.{File, file_named}
use Rattle.sws_site.specs.Fixed.{fixed_body}
use Rattle.sws_site.specs.Folders.{folder_index, folder_path, index_tail, redirects_to, redirect_head, redirect_of}
use Rattle.sws_site.specs.declared.statuses.Status.TheVariants.{MovedPermanently}
use Rattle.sws_request.specs.Request.{Request}
use Rattle.sws_answer.specs.declared.answers.Answer.{Answer as Sent}
use Rattle.sws_answer.specs.declared.ranges.Selection.TheVariants.{Whole}
use Rattle.sws_answer.specs.Answers.{response}
use Rattle.sws_answer.specs.AnswerValues.{Sends}
use Rattle.sws_site.specs.Limits.{IsWithinLimits}
use Rattle.sws_site.specs.Page.{PageState}
use Rattle.sws_site.specs.Site.{SiteState, found_in}
use Rattle.sws_site.proofs.FileLemmas.{file_named-long, file_named-name}
use Rattle.sws_answer.specs.FileAnswers.{redirect_parts, file_answer, folder_answer, name_answer}

abbrev page_of : SiteState → File → PageState
page_of site file = record { file = file; date = site.date; options = site.options }

if-none : (t : Bool) (found : Option File) → found ≡ None → (if t then found else None) ≡ None
if-none true found e = e
if-none false found e = refl

-- a name that is too long is that of no folder
pub folder_index-long : (site : SiteState) (name : List ℕ) → IsWithinLimits site.files → 1024 < length name + 11 → folder_index site name ≡ None
folder_index-long site name within long =
    if-none (redirects_to site.options (name ++ index_tail)) (file_named (name ++ index_tail) site.files)
    (file_named-long site.files (name ++ index_tail) within (omega (arith, length-append name index_tail)))

-- nor is one that no file has with the end of an index
pub folder_index-none : (site : SiteState) (name : List ℕ) → None ≡ found_in site (name ++ index_tail) → folder_index site name ≡ None
folder_index-none site name e = if-none (redirects_to site.options (name ++ index_tail)) (file_named (name ++ index_tail) site.files) (by_file (file_named (name ++ index_tail) site.files) e)
  where
    by_file : (found : Option File) → None ≡ option_map (page_of site) found → found ≡ None
    by_file None e = refl
    by_file (Some file) e = absurd (cc)

-- where the site redirects to no folder
pub folder_index-off : (site : SiteState) (options : SiteOptions) (name : List ℕ) → options ≡ site.options → options.redirects_to_folders ≡ false → folder_index site name ≡ None
folder_index-off site options name is off = ap (λ t. if t then file_named (name ++ index_tail) site.files else None) (sym (ap (λ (o : SiteOptions). redirects_to o (name ++ index_tail)) is) ∙ by_option)
  where
    by_option : redirects_to options (name ++ index_tail) ≡ false
    by_option = cc

-- the redirect of the file that is found is that to the folder
pub redirect_of-found : (site : SiteState) (name index : List ℕ) (page : PageState) (closes : Bool) → index ≡ name ++ index_tail → Some page ≡ found_in site index
    → redirect_of page closes ≡ option_map (redirect_parts site.options closes) (folder_index site name)
redirect_of-found site name index page closes is e = by_file (file_named (name ++ index_tail) site.files) refl (e ∙ ap (found_in site) is)
  where
    by_test : (t : Bool) (file : File) → (if t then Some (redirect_parts site.options closes file) else None) ≡ option_map (redirect_parts site.options closes) (if t then Some file else None)
    by_test true file = refl
    by_test false file = refl

    by_file : (found : Option File) → file_named (name ++ index_tail) site.files ≡ found → Some page ≡ option_map (page_of site) found
        → redirect_of page closes ≡ option_map (redirect_parts site.options closes) (if redirects_to site.options (name ++ index_tail) then file_named (name ++ index_tail) site.files else None)
    by_file None f g = absurd (cc)
    by_file (Some file) f g =
        let same : page ≡ page_of site file = cc in
        ap (λ (p : PageState). redirect_of p closes) same
        ∙ ap (λ (n : List ℕ). if redirects_to site.options n then Some (redirect_parts site.options closes file) else None) (file_named-name site.files (name ++ index_tail) file f)
        ∙ by_test (redirects_to site.options (name ++ index_tail)) file
        ∙ ap (λ (o : Option File). option_map (redirect_parts site.options closes) (if redirects_to site.options (name ++ index_tail) then o else None)) (sym f)

-- the file that is found is sent, whatever folder has the name
pub file_answer-found : (sent : Sent) (site : SiteState) (asked : Request) (name said : List ℕ) (page : PageState) (closes is_head : Bool) → name ≡ said → Some page ≡ found_in site name
    → ((index : Option File) → Sends sent (file_answer site asked (Some page.file) index closes is_head)) → Sends sent (name_answer site asked said closes is_head)
file_answer-found sent site asked name said page closes is_head is e sends =
    subst (λ found. Sends sent (file_answer site asked found (folder_index site said) closes is_head)) (by_file (file_named said site.files) (e ∙ ap (found_in site) is)) (sends (folder_index site said))
  where
    by_file : (found : Option File) → Some page ≡ option_map (page_of site) found → Some page.file ≡ found
    by_file None f = absurd (cc)
    by_file (Some file) f = let same : page ≡ page_of site file = cc in ap (λ (p : PageState). Some p.file) same

some_pair : (one other : List ℕ × List ℕ) → Some one ≡ Some other → (one.0 ≡ other.0) × (one.1 ≡ other.1)
some_pair one other e = let same : one ≡ other = cc in (ap (λ (p : List ℕ × List ℕ). p.0) same, ap (λ (p : List ℕ × List ℕ). p.1) same)

-- the response that redirects
moved_code : (site : SiteState) (index : File) (closes is_head : Bool) → (response site MovedPermanently (Some index) Whole closes is_head).code ≡ 301
unfolding response
moved_code site index closes is_head = refl

moved_closes : (site : SiteState) (index : File) (closes is_head : Bool) → (response site MovedPermanently (Some index) Whole closes is_head).closes ≡ closes
unfolding response
moved_closes site index closes is_head = refl

moved_head : (site : SiteState) (index : File) (closes is_head : Bool) → (response site MovedPermanently (Some index) Whole closes is_head).head ≡ redirect_head site.options (folder_path index.0) closes
unfolding response redirect_head head_text
moved_head site index closes is_head = refl

moved_body : (site : SiteState) (index : File) (closes is_head : Bool) → (response site MovedPermanently (Some index) Whole closes is_head).body ≡ (if is_head then [] else fixed_body MovedPermanently)
unfolding response
moved_body site index closes is_head = refl

-- the redirect that is sent
pub Sends-folder : (sent : Sent) (site : SiteState) (found : Option File) (head body : List ℕ) (closes is_head : Bool) → Some (head, body) ≡ option_map (redirect_parts site.options closes) found
    → sent.code ≡ 301 → sent.closes ≡ closes → sent.parts.head ≡ head → sent.parts.body ≡ (if is_head then [] else body)
    → Sends sent (folder_answer site found closes is_head)
Sends-folder sent site None head body closes is_head e code ends has_head has_body = absurd (cc)
Sends-folder sent site (Some index) head body closes is_head e code ends has_head has_body = record {
  code = code ∙ sym (moved_code site index closes is_head);
  closes = ends ∙ sym (moved_closes site index closes is_head);
  head = has_head ∙ (some_pair (head, body) (redirect_parts site.options closes index) e).0 ∙ sym (moved_head site index closes is_head);
  body = has_body ∙ ap (λ b. if is_head then [] else b) (some_pair (head, body) (redirect_parts site.options closes index) e).1 ∙ sym (moved_body site index closes is_head);
}
