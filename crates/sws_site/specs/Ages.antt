-- For how many seconds a file may be kept, by the end of its name (RFC 9111, section 5.2.2.1).
use Rattle.std.specs.Prelude.{ℕ, List, Option}
use Rattle.std.specs.Option.{option_or}
use Rattle.sws_site.specs.declared.options.SiteOptions.{SiteOptions}
use Rattle.sws_site.specs.OwnAges.{longest_age}

-- for how many seconds a file of this name may be kept, if that is said: the age of the longest end
-- that it has decides, and where it has none that of all others
abbrev pub age_of : SiteOptions → List ℕ → Option ℕ
age_of options name = option_or (longest_age options.added.ages name) options.added.max_age
