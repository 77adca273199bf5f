-- Menus (RFC 1436, sections 2 and 3.8): what lies directly in a folder, and how it is written.
use Rattle.std.specs.Prelude.{ℕ, ◌==◌, nat_eq, nat_le, not, ◌&&◌, Bool, List, [], ◌∷◌, ◌++◌, length, take, drop, codes, if◌then◌else◌, Option, Some, None, fold}
use Rattle.std.specs.List.{starts_with, flat_map, filter_map, list_all, slice_split, position}
use Rattle.std.specs.Fmt.{decimal}
use Rattle.std.specs.declared.cmp.Ordering.{Ordering}
use Rattle.std.specs.Ordering.{nat_cmp, ordering_then}
use Rattle.std.specs.Cmp.Lexicographic.{slice_cmp}
use Rattle.std.specs.BTreeSet.{insert_key}
use Rattle.sws_site.specs.Files.{File}
use Rattle.sws_site.specs.Site.{SiteState}
use Rattle.sws_site.specs.ContentTypes.{content_type}
use Rattle.sws_gopher.specs.declared.kind.Kind.{Kind}
use Rattle.sws_gopher.specs.declared.kind.Kind.TheVariants.{Text, Binary, Folder}
use Rattle.sws_gopher.specs.Texts.{line_end, last_line}

-- the byte stands between the parts of a path
abbrev pub is_slash : ℕ → Bool
is_slash byte = byte == 47

-- a file of this name is sent as a text
abbrev pub is_text : List ℕ → Bool
is_text name = starts_with nat_eq (content_type name) (codes "text/")

-- the byte is no control byte of ASCII
abbrev pub is_shown : ℕ → Bool
is_shown byte = nat_le 32 byte && not (byte == 127)

-- the part isn't empty
abbrev pub is_part : List ℕ → Bool
is_part part = not (length part == 0)

-- a file of this name is listed: it has no control byte, and no part of it is empty
abbrev pub is_listed : List ℕ → Bool
is_listed name = list_all is_shown name && list_all is_part (slice_split is_slash name)

-- an item of a menu: what is displayed of it, and what it is
abbrev pub Item : Type 0
Item = List ℕ × Kind

-- what is to be seen of a file of this name, of which that much stands behind the folder's path: a
-- folder up to the first slash there, or the file
abbrev pub item_up_to : List ℕ → List ℕ → Option ℕ → Item
item_up_to name rest (Some at) = (take at rest, Folder)
item_up_to name rest None = (rest, if is_text name then Text else Binary)

abbrev pub item_of : List ℕ → List ℕ → Item
item_of name rest = item_up_to name rest (position is_slash rest)

-- what is to be seen in a folder of this path, which is empty or ends with a slash, of a file of
-- this name; nothing of one that lies elsewhere or isn't listed
abbrev pub item_in : List ℕ → List ℕ → Option Item
item_in folder name =
    if is_listed name && starts_with nat_eq name folder
    then Some (item_of name (drop (length folder) name)) else None

-- in which order items of one name stand: a file before a folder
abbrev pub rank : Kind → ℕ
rank Text = 0
rank Binary = 1
rank Folder = 2

-- items stand in the order of the bytes of what is displayed
abbrev pub item_cmp : Item → Item → Ordering
item_cmp one other =
    ordering_then (slice_cmp nat_cmp one.0 other.0) (nat_cmp (rank one.1) (rank other.1))

-- what lies directly in the folder of this path, each once, in order
abbrev pub items_of : List File → List ℕ → List Item
items_of files folder =
    fold (insert_key item_cmp) [] (filter_map (λ file. item_in folder file.0) files)

-- what answers are taken from: the files, and the address that menus give
pub record Place : Type 0 where
  pub files : List File
  pub host : List ℕ
  pub port : ℕ

-- the files of a site at this address
abbrev pub place_of : SiteState → List ℕ → ℕ → Place
place_of site host port = record { files = site.files; host = host; port = port }

-- the character that says what an item is
abbrev pub sign : Kind → ℕ
sign Text = 48
sign Binary = 57
sign Folder = 49

-- what stands behind the selector of an item
abbrev pub slash_after : Kind → List ℕ
slash_after Text = []
slash_after Binary = []
slash_after Folder = 47 ∷ []

-- the selector of an item of the folder of this path
abbrev pub selector_to : List ℕ → Item → List ℕ
selector_to folder item = 47 ∷ (folder ++ (item.0 ++ slash_after item.1))

-- with TAB in front
abbrev pub tabbed : List ℕ → List ℕ
tabbed bytes = 9 ∷ bytes

-- the line of an item of the folder of this path: what it is, what is displayed, its selector, and
-- where it is to be had
abbrev pub menu_line : Place → List ℕ → Item → List ℕ
menu_line place folder item =
    (sign item.1 ∷ item.0)
    ++ (tabbed (selector_to folder item)
    ++ (tabbed place.host ++ (tabbed (decimal place.port) ++ line_end)))

-- the menu of the folder of this path
unfoldable pub menu_of : Place → List ℕ → List ℕ
menu_of place folder =
    flat_map (menu_line place folder) (items_of place.files folder) ++ last_line
