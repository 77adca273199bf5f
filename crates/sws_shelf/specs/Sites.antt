-- What the sites of this server do beyond plain ones.
use Rattle.std.specs.Prelude.{true}
use Rattle.sws_site.specs.declared.options.SiteOptions.{SiteOptions}
use Rattle.sws_shelf.specs.declared.shelf.Origin.{Origin}

-- all that a site can, with what is added to it; it holds so many files and so many bytes, and of a
-- connection so many requests are answered, and so many bytes count
abbrev pub site_options : Origin → SiteOptions
site_options origin = record {
  removes_dot_segments = true;
  knows_more_types = true;
  sends_not_found_page = true;
  redirects_to_folders = true;
  refuses_ambiguous = true;
  keeps_alive = true;
  reads_if_range = true;
  answers = origin.answers;
  input = origin.input;
  max_files = origin.max_files;
  max_bytes = origin.max_bytes;
  added = origin.added;
}
