-- What is prepared of a site: its texts by their names, and its menus by the paths of their
-- folders.
use Rattle.std.specs.Prelude.{◌≡◌, ℕ, ◌<◌, ◌≤◌, nat_eq, ◌&&◌, Bool, true, false, List, [], ◌∷◌, ◌++◌, length, if◌then◌else◌, Option, Some, None, option_map, IfSome, Vec}
use Rattle.std.specs.Ordering.{nat_cmp}
use Rattle.std.specs.Cmp.Lexicographic.{slice_cmp}
use Rattle.std.specs.Str.{bytes_eq}
use Rattle.std.specs.List.{starts_with, list_any}
use Rattle.std.specs.BTreeMap.{BTreeMap, get_by}
use Rattle.std.specs.declared.alloc.Global.{Global}
use Rattle.sws_site.specs.Files.{File, file_named}
use Rattle.sws_site.specs.Limits.{IsWithinLimits}
use Rattle.sws_gopher.specs.Texts.{text_of}
use Rattle.sws_gopher.specs.Menus.{Place, is_text, menu_of}

-- the most bytes of a host's name
abbrev pub host_limit : ℕ
host_limit = 255

-- prepared bytes by names
abbrev pub Prepared : Type 0
Prepared = BTreeMap (Vec ℕ Global) (Vec ℕ Global)

-- what is kept under a name
abbrev pub kept : Prepared → List ℕ → Option (List ℕ)
kept prepared name =
    option_map (λ bytes. bytes.items) (get_by (λ key. slice_cmp nat_cmp name key.items) prepared)

-- the text of the first file of the name, where such files are texts
abbrev pub text_named : List File → List ℕ → Option (List ℕ)
text_named files name =
    if is_text name then option_map (λ file. text_of file.1) (file_named name files) else None

-- the path of the folder of this key, which is the path without its last slash; the key of the
-- whole site is empty
abbrev pub path_of_key : List ℕ → List ℕ
path_of_key [] = []
path_of_key (byte ∷ key) = (byte ∷ key) ++ 47 ∷ []

-- a file of this name lies in the folder of this key, which isn't the whole site
abbrev pub lies_in : List ℕ → List ℕ → Bool
lies_in [] name = false
lies_in (byte ∷ key) name = starts_with nat_eq name ((byte ∷ key) ++ 47 ∷ [])

-- a menu is prepared for the folder of this key
abbrev pub has_menu : List File → List ℕ → Bool
has_menu files [] = true
has_menu files (byte ∷ key) = list_any (λ file. lies_in (byte ∷ key) file.0) files

-- the menu of the folder of this key
abbrev pub menu_at : Place → List ℕ → List ℕ
menu_at place key = menu_of place (path_of_key key)

-- the texts of these files are prepared
abbrev pub KeepsTexts : List File → Prepared → Type 0
KeepsTexts files texts = (name : List ℕ) → kept texts name ≡ text_named files name

-- the menus of the folders in which these files lie are prepared, and that of the whole site
abbrev pub KeepsMenusOf : Place → List File → Prepared → Type 0
KeepsMenusOf place files menus =
    (key : List ℕ) → kept menus key
    ≡ (if has_menu files key then Some (menu_at place key) else None)

-- the menu of the folder of this key, if there is that folder
abbrev pub menu_of_key : Place → List ℕ → Option (List ℕ)
menu_of_key place key = if has_menu place.files key then Some (menu_at place key) else None

-- the menus of this place are prepared
abbrev pub KeepsMenus : Place → Prepared → Type 0
KeepsMenus place menus = KeepsMenusOf place place.files menus

-- the text of a file is put where that of its name is kept, if files of the name are texts
abbrev pub AddsText : File → Prepared → Prepared → Type 0
AddsText file old new =
    (name : List ℕ) → kept new name
    ≡ (if is_text name && bytes_eq file.0 name then Some (text_of file.1) else kept old name)

-- whatever is kept is the menu of its key
abbrev pub AreMenus : Place → Prepared → Type 0
AreMenus place menus = (key : List ℕ) → IfSome (kept menus key) (λ menu. menu ≡ menu_at place key)

-- the menus of the keys that pass this test are kept beside those that were
abbrev pub AddsMenus : Place → (List ℕ → Bool) → Prepared → Prepared → Type 0
AddsMenus place test old new =
    (key : List ℕ) → kept new key ≡ (if test key then Some (menu_at place key) else kept old key)

-- what a hall holds is within the limits of a site, its host's name is short, and its port is one
pub record IsHall (place : Place) : Type 0 where
  pub limits : IsWithinLimits place.files
  pub host : length place.host ≤ host_limit
  pub port : place.port < 65536
