-- What a page shows, of its fields.
use Rattle.std.specs.Prelude.{◌≡◌, ◌≤◌, [], length}
use Rattle.sws_site.specs.declared.statuses.Status.TheVariants.{NotModified}
use Rattle.sws_site.specs.declared.pages.Page.TheInside.{Inside}
use Rattle.sws_site.specs.Limits.{size_limit}
use Rattle.sws_site.specs.Page.{PageState}
use Rattle.sws_site.specs.BuiltResponses.{IsBuilt}
use Rattle.sws_site.specs.Stored.{file_of, HasHeads}

-- a page, of its private fields
abbrev pub state_of : Inside → PageState
state_of page = record {
  file = file_of page.file.now;
  date = page.date;
  options = page.options.now;
}

-- the heads that a page lends were built for its file and its date
pub record IsOfSite (page : Inside) : Type 0 where
  pub heads : HasHeads page.options.now page.date page.file.now
  pub not_modified
      : IsBuilt page.options.now NotModified page.options.now.added.max_age page.date []
      page.not_modified.now
  pub no_content : page.not_modified.now.body.items ≡ []
  pub short : length page.file.now.response.body.items ≤ size_limit
