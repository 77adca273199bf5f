-- What a contract sees of a file of a site.
use Rattle.std.specs.Prelude.{Option}
use Rattle.httpdate.specs.declared.date.HttpDate.{HttpDate}
use Rattle.sws_site.specs.declared.options.SiteOptions.{SiteOptions}
use Rattle.sws_site.specs.Files.{File}

-- one file of a site, when the site was last modified, if that is known, and what the site does
-- beyond sending its files
pub record PageState : Type 0 where
  pub file : File
  pub date : Option HttpDate
  pub options : SiteOptions
