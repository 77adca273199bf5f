-- The answer to a request that no earlier case refuses, by the file that it names. Only clauses of
-- private functions cite this.
use Rattle.std.specs.Prelude.{ℕ, length, Bool, if◌then◌else◌, List, Option, Some, None}
use Rattle.sws_request.specs.Request.{Request}
use Rattle.sws_site.specs.declared.statuses.Status.{Status}
use Rattle.sws_site.specs.declared.statuses.Status.TheVariants.{Success, PartialContent, MovedPermanently, NotModified, NotFound, RangeNotSatisfiable}
use Rattle.sws_site.specs.declared.options.SiteOptions.{SiteOptions}
use Rattle.sws_site.specs.Files.{File, file_named}
use Rattle.sws_site.specs.Fixed.{fixed_body}
use Rattle.sws_site.specs.Folders.{folder_index, folder_path, redirect_head}
use Rattle.sws_site.specs.Site.{SiteState}
use Rattle.sws_answer.specs.declared.ranges.Selection.{Selection}
use Rattle.sws_answer.specs.declared.ranges.Selection.TheVariants.{Whole, Part, Unsatisfied}
use Rattle.sws_answer.specs.Conditions.{is_unmodified}
use Rattle.sws_answer.specs.Ranges.{selection_in}
use Rattle.sws_answer.specs.Answers.{Answer, response}

-- the status of what is sent of a file
abbrev pub status_by : Selection → Status
status_by Whole = Success
status_by (Part first last) = PartialContent
status_by Unsatisfied = RangeNotSatisfiable

-- head and body of the redirect to the folder of the index, in a site with these options
abbrev pub redirect_parts : SiteOptions → Bool → File → List ℕ × List ℕ
redirect_parts options closes index =
    (redirect_head options (folder_path index.0) closes, fixed_body MovedPermanently)

-- the answer to a request whose name no file has, by the index of the folder of that name
abbrev pub folder_answer : SiteState → Option File → Bool → Bool → Answer
folder_answer site None closes is_head = response site NotFound None Whole closes is_head
folder_answer site (Some index) closes is_head =
    response site MovedPermanently (Some index) Whole closes is_head

-- the answer to a request for the file, or else for the folder
abbrev pub file_answer : SiteState → Request → Option File → Option File → Bool → Bool → Answer
file_answer site asked None index closes is_head = folder_answer site index closes is_head
file_answer site asked (Some file) index closes is_head =
    let selection = selection_in site asked (length file.1) in
    response site (if is_unmodified site.date asked.fields then NotModified else status_by selection)
    (Some file) selection closes is_head

-- the answer to a request that names a file by this name
abbrev pub name_answer : SiteState → Request → List ℕ → Bool → Bool → Answer
name_answer site asked name closes is_head =
    file_answer site asked (file_named name site.files) (folder_index site name) closes is_head
