-- What a selector is answered with (RFC 1436, section 2), out of a site at an address.
use Rattle.std.specs.Prelude.{ℕ, nat_eq, not, ◌&&◌, Bool, List, [], ◌∷◌, ◌++◌, drop, codes, if◌then◌else◌, Option, Some, None}
use Rattle.std.specs.List.{starts_with, ends_with, list_any}
use Rattle.std.specs.Str.{bytes_eq}
use Rattle.sws_site.specs.Files.{File, file_named}
use Rattle.sws_gopher.specs.Texts.{line_end, last_line, text_of}
use Rattle.sws_gopher.specs.Menus.{Place, is_text, menu_of}

-- the answer where there is nothing of the selector: an item that says so, and the last line
abbrev pub not_found : List ℕ
not_found = codes "3not found\t\terror.host\t1" ++ (line_end ++ last_line)

-- a folder's path ends with a slash
abbrev pub as_folder : List ℕ → List ℕ
as_folder name = if ends_with nat_eq name (47 ∷ []) then name else name ++ 47 ∷ []

-- the path begins the name of a file
abbrev pub begins_name : List File → List ℕ → Bool
begins_name files path = list_any (λ file. starts_with nat_eq file.0 path) files

-- the path is that of a folder, and not `/`
abbrev pub is_folder : List File → List ℕ → Bool
is_folder files path = not (bytes_eq path (47 ∷ [])) && begins_name files path

-- the answer to a file of this name
abbrev pub reply_to_file : List ℕ → File → List ℕ
reply_to_file name file = if is_text name then text_of file.1 else file.1

-- the answer to a name that is no file's
abbrev pub reply_to_folder : Place → List ℕ → List ℕ
reply_to_folder place name =
    if is_folder place.files (as_folder name) then menu_of place (as_folder name) else not_found

abbrev pub reply_to_found : Place → List ℕ → Option File → List ℕ
reply_to_found place name (Some file) = reply_to_file name file
reply_to_found place name None = reply_to_folder place name

-- the answer to a selector without its first slash: the first file of the name, or else a folder
abbrev pub reply_to : Place → List ℕ → List ℕ
reply_to place [] = menu_of place []
reply_to place (byte ∷ name) =
    reply_to_found place (byte ∷ name) (file_named (byte ∷ name) place.files)

-- without one slash at the front, if it stands there
abbrev pub without_first_slash : List ℕ → List ℕ
without_first_slash selector =
    if starts_with nat_eq selector (47 ∷ []) then drop 1 selector else selector

-- the answer to a selector
unfoldable pub reply_of : Place → List ℕ → List ℕ
reply_of place selector = reply_to place (without_first_slash selector)

-- no answer has more bytes
abbrev pub text_limit : ℕ
text_limit = 17200000000
