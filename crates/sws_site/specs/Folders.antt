-- The folders of a site, and the responses that redirect to them (RFC 9110, section 15.4.2).
use Rattle.std.specs.Prelude.{ℕ, ◌-◌, ◌==◌, ◌&&◌, ◌||◌, Bool, not, nat_eq, if◌then◌else◌, List, [], ◌∷◌, ◌++◌, length, take, codes, Option, Some, None}
use Rattle.std.specs.Char.{is_ascii_alphanumeric}
use Rattle.std.specs.List.{flat_map, starts_with, ends_with}
use Rattle.percent_encoding.specs.Percent.{percent_encode_byte}
use Rattle.sws_site.specs.declared.statuses.Status.TheVariants.{MovedPermanently}
use Rattle.sws_site.specs.declared.options.SiteOptions.{SiteOptions}
use Rattle.sws_site.specs.ResponseHeads.{head_text}
use Rattle.sws_site.specs.Files.{File, file_named}
use Rattle.sws_site.specs.Fixed.{fixed_body, plain_text}
use Rattle.sws_site.specs.Page.{PageState}
use Rattle.sws_site.specs.Site.{SiteState}

-- the name of the index of a folder is the folder's, and this
abbrev pub index_tail : List ℕ
index_tail = codes "/index.html"

-- a site with these options redirects to the folder of the index of this name. A name that begins
-- with a slash names no such folder: with the first slash of a path before it, it would be taken
-- for that of a host (RFC 3986, section 4.2)
abbrev pub redirects_to : SiteOptions → List ℕ → Bool
redirects_to options index =
    options.redirects_to_folders && ends_with nat_eq index index_tail
    && not (starts_with nat_eq index (codes "/"))

-- the index of the folder of this name, where the site has it and redirects to the folder
abbrev pub folder_index : SiteState → List ℕ → Option File
folder_index site name =
    let index = name ++ index_tail in
    if redirects_to site.options index then file_named index site.files else None

-- a byte that stands in a path as it is: an unreserved one (RFC 3986, section 2.3), or the slash
unfoldable pub stays_in_path : ℕ → Bool
stays_in_path byte =
    is_ascii_alphanumeric byte || byte == 45 || byte == 46 || byte == 47 || byte == 95
    || byte == 126

-- the bytes with all others escaped (RFC 3986, section 2.1)
unfoldable pub escaped_path : List ℕ → List ℕ
escaped_path bytes =
    flat_map (λ byte. if stays_in_path byte then byte ∷ [] else percent_encode_byte byte) bytes

-- the path of the folder of this index, which ends in a slash: the index's without `index.html`
unfoldable pub folder_path : List ℕ → List ℕ
folder_path index = 47 ∷ escaped_path (take (length index - 10) index)

-- the head of the response that redirects to this path, of a site with these options
unfoldable pub redirect_head : SiteOptions → List ℕ → Bool → List ℕ
redirect_head options path closes =
    head_text (record {
      status = MovedPermanently;
      location = Some path;
      closes = closes;
      says_kept = options.keeps_alive;
      date = None;
      max_age = None;
      range = None;
      media_type = plain_text;
      len = length (fixed_body MovedPermanently);
      headers = options.added.headers;
    })

-- head and body of the response that redirects to the folder of this index, where the site does
abbrev pub redirect_of : PageState → Bool → Option (List ℕ × List ℕ)
redirect_of page closes =
    if redirects_to page.options page.file.0
    then Some (
      redirect_head page.options (folder_path page.file.0) closes,
      fixed_body MovedPermanently,
    )
    else None
