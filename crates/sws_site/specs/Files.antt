-- The files of a site, and the heads of the responses about one of them.
use Rattle.std.specs.Prelude.{ℕ, Bool, List, [], length, find, Option, None}
use Rattle.std.specs.Str.{bytes_eq}
use Rattle.httpdate.specs.declared.date.HttpDate.{HttpDate}
use Rattle.sws_site.specs.declared.statuses.Status.TheVariants.{Success, NotModified}
use Rattle.sws_site.specs.declared.options.SiteOptions.{SiteOptions}
use Rattle.sws_site.specs.ContentTypes.{media_type_of}
use Rattle.sws_site.specs.Ages.{age_of}
use Rattle.sws_site.specs.ResponseHeads.{head_text}

-- a name and the contents
abbrev pub File : Type 0
File = List ℕ × List ℕ

-- the first file of the name
abbrev pub file_named : List ℕ → List File → Option File
file_named name files = find (λ file. bytes_eq file.0 name) files

-- the head of the response that sends a file of a site with these options and of this date
unfoldable pub file_head : SiteOptions → Option HttpDate → File → Bool → List ℕ
file_head options date file closes =
    head_text (record {
      status = Success;
      location = None;
      closes = closes;
      says_kept = options.keeps_alive;
      date = date;
      max_age = age_of options file.0;
      range = None;
      media_type = media_type_of options file.0;
      len = length file.1;
      headers = options.added.headers;
    })

-- the head of the response that a file of such a site was not modified since
unfoldable pub not_modified_head : SiteOptions → Option HttpDate → File → Bool → List ℕ
not_modified_head options date file closes =
    head_text (record {
      status = NotModified;
      location = None;
      closes = closes;
      says_kept = options.keeps_alive;
      date = date;
      max_age = age_of options file.0;
      range = None;
      media_type = [];
      len = 0;
      headers = options.added.headers;
    })
