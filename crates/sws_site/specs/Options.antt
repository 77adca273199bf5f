-- What a site does beyond sending its files, how much it holds, and how much of a connection it
-- serves.
use Rattle.std.specs.Prelude.{◌^◌, ◌<◌, false, [], None}
use Rattle.std.specs.Option.{ForSome}
use Rattle.std.proofs.Common.{refl, lit≤}
use Rattle.sws_site.specs.declared.options.SiteOptions.{SiteOptions}
use Rattle.sws_site.specs.declared.additions.Additions.{Additions}

-- no age is too long
pub no_age : ForSome None (λ seconds. seconds < 2 ^ 32)
no_age seconds given = absurd (cc)

-- its owner adds no line, no media type and no age
abbrev pub nothing_added : Additions
nothing_added = record {
  headers = [];
  types = [];
  ages = [];
  max_age = None;
  short_headers = lit≤ tt;
  short_types = refl;
  short_ages = refl;
  short_age = no_age;
}

-- a site sends its files and does nothing beyond, and of a connection 64 requests are answered and
-- 65,536 bytes count; it holds 4,096 files
-- and 268,435,456 bytes
abbrev pub plain_options : SiteOptions
plain_options = record {
  removes_dot_segments = false;
  knows_more_types = false;
  sends_not_found_page = false;
  redirects_to_folders = false;
  refuses_ambiguous = false;
  keeps_alive = false;
  reads_if_range = false;
  answers = 64;
  input = 65536;
  max_files = 4096;
  max_bytes = 268435456;
  added = nothing_added;
}
