-- What a site shows, of its fields.
use Rattle.std.specs.Prelude.{◌≡◌, []}
use Rattle.sws_site.specs.declared.statuses.Status.TheVariants.{NotModified}
use Rattle.sws_site.specs.declared.sites.Site.TheInside.{Inside}
use Rattle.sws_site.specs.Limits.{IsWithinOptions}
use Rattle.sws_site.specs.Site.{SiteState}
use Rattle.sws_site.specs.BuiltResponses.{IsBuilt}
use Rattle.sws_site.specs.Fixed.{not_found_page}
use Rattle.sws_site.specs.Refusals.{AreRefusals}
use Rattle.sws_site.specs.Stored.{files_of, AllHaveHeads, FindsPlaces}

-- a site, of its private fields
abbrev pub state_of : Inside → SiteState
state_of site = record {
  files = files_of site.files.items;
  date = site.date;
  options = site.options;
}

-- what a site keeps: its limits, the heads of its files, where each name is found, and its refusals
pub record IsStored (site : Inside) : Type 0 where
  pub limits : IsWithinOptions site.options (files_of site.files.items)
  pub heads : AllHaveHeads site.options site.date site.files.items
  pub places : FindsPlaces site.files.items site.places
  pub not_modified : IsBuilt site.options NotModified site.options.added.max_age site.date [] site.not_modified
  pub no_content : site.not_modified.body.items ≡ []
  pub refusals
      : AreRefusals site.options (not_found_page site.options (files_of site.files.items))
      site.refusals
