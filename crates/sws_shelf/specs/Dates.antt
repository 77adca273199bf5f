-- When sites were last modified.
use Rattle.std.specs.Prelude.{◌≡◌, ℕ, ◌+◌, ◌/◌, ◌%◌, ◌<◌, min, max, Option, None, Some, IfSome, option_map}
use Rattle.std.specs.Option.{option_map_or}
use Rattle.std.specs.Arc.{arc_value}
use Rattle.std.specs.Duration.{as_nanos}
use Rattle.std.specs.declared.time.Duration.{Duration}
use Rattle.httpdate.specs.Date.{unix_secs}
use Rattle.sws_site.specs.Limits.{IsWithinOptions}
use Rattle.sws_site.specs.Site.{SiteState}
use Rattle.sws_shelf.specs.Sites.{site_options}
use Rattle.sws_shelf.specs.declared.shelf.Loaded.{Loaded}
use Rattle.sws_shelf.specs.declared.shelf.Origin.{Origin}

-- the date is later than the one before, if there was one
abbrev pub IsLater : Option ℕ → ℕ → Type 0
IsLater before date = IfSome before (λ earlier. earlier < date)

-- the first second after the newest change and after the date before, and none that is to come
abbrev pub date_after : Option ℕ → ℕ → ℕ → ℕ
date_after before newest now =
    min (max (option_map_or (λ earlier. earlier + 1) before 0) (newest + 1)) now

-- the whole seconds of a time
abbrev pub secs_of : Duration → ℕ
secs_of time = as_nanos time / 1_000_000_000

-- and the milliseconds beyond them
abbrev pub millis_of : Duration → ℕ
millis_of time = as_nanos time % 1_000_000_000 / 1_000_000

-- when the site was last modified, in seconds after the beginning of 1970, where it has a date
abbrev pub date_of : SiteState → Option ℕ
date_of site = option_map unix_secs site.date

-- the last date that a site had, once one has this date or none
abbrev pub latest : Option ℕ → Option ℕ → Option ℕ
latest before None = before
latest before (Some date) = Some date

-- the site has the date that is kept beside it, and none that isn't later than the one before, and
-- the options of its origin, and is within their limits
pub record IsLoaded (before : Option ℕ) (origin : Origin) (loaded : Loaded) : Type 0 where
  pub dated : date_of (arc_value loaded.site) ≡ loaded.date
  pub later : IfSome loaded.date (IsLater before)
  pub options : (arc_value loaded.site).options ≡ site_options origin
  pub within : IsWithinOptions (site_options origin) (arc_value loaded.site).files
