-- How long answers are at most.
use Rattle.std.proofs.Common.{◌≡◌, ℕ, suc, ◌+◌, ◌-◌, ◌*◌, ◌<◌, ◌≤◌, Bool, true, false, cond, eqb, List, [], ◌∷◌, ◌++◌, length, take, drop, fold, refl, sym, ap, Option, Some, None, arith, length-append, length-take, length-drop, ◌&&◌, ◌||◌, not, All}
use Rattle.std.specs.Prelude.{nat_eq, IfSome}
use Rattle.std.specs.List.{onto_first, flat_map, filter_map, cons_option, starts_with, ends_with, position}
use Rattle.std.proofs.lemmas.Fmt.{length-decimal-le}
use Rattle.std.proofs.lemmas.List.Sums.{sum_by-cons}
use Rattle.std.proofs.lemmas.List.Elements.{All-head, All-tail}
use Rattle.std.proofs.lemmas.Map.Views.{All-insert_key}
use Rattle.std.specs.Fmt.{decimal}
use Rattle.std.specs.Ordering.{match_ordering}
use Rattle.std.specs.declared.cmp.Ordering.{Ordering}
use Rattle.std.specs.declared.cmp.Ordering.TheVariants.{Less, Equal, Greater}
use Rattle.std.specs.BTreeSet.{insert_key}
use Rattle.std.specs.Str.{bytes_eq}
use Rattle.sws_text.specs.Lines.{lines_of}
use Rattle.sws_site.specs.Files.{File, file_named}
use Rattle.sws_site.specs.Limits.{bytes_of, size_limit}
use Rattle.sws_gopher.specs.declared.kind.Kind.TheVariants.{Text, Binary, Folder}
use Rattle.sws_gopher.specs.Texts.{without_last, dotted, line_end, text_line, last_line, text_of}
use Rattle.sws_gopher.specs.Menus.{Item, item_up_to, item_of, item_in, is_text, item_cmp, items_of, is_listed, is_slash, Place, slash_after, selector_to, tabbed, menu_line, menu_of}
use Rattle.sws_gopher.specs.Halls.{IsHall}
use Rattle.std.proofs.lemmas.Bool.Decides.{Decides-eqb}
use Rattle.std.proofs.lemmas.Slice.Eq.{starts_is}
use Rattle.sws_gopher.specs.Replies.{as_folder, begins_name, reply_to_file, reply_to_folder, reply_to_found, reply_to, reply_of, without_first_slash, not_found, text_limit}

-- ---- texts

without_last-short : (byte : ℕ) (bytes : List ℕ) → length (without_last byte bytes) ≤ length bytes
without_last-short byte bytes = by_test (ends_with nat_eq bytes (byte ∷ []))
  where
    by_test : (b : Bool) → length (cond b (take (length bytes - 1) bytes) bytes) ≤ length bytes
    by_test true = let l = length-take (length bytes - 1) bytes in omega arith
    by_test false = omega arith

dotted-short : (line : List ℕ) → length (dotted line) ≤ length line + 1
dotted-short line = by_test (starts_with nat_eq line (46 ∷ []))
  where
    by_test : (b : Bool) → length (cond b (46 ∷ line) line) ≤ length line + 1
    by_test true = omega arith
    by_test false = omega arith

-- a line is sent with at most twice its bytes and their LF
line-short : (line : List ℕ) → length (text_line line) ≤ 2 * (length line + 1)
line-short [] = omega arith
line-short (byte ∷ line) =
    let dots = dotted-short (without_last 13 (byte ∷ line)) in
    let last = without_last-short 13 (byte ∷ line) in
    omega (arith, length-append (dotted (without_last 13 (byte ∷ line))) line_end)

-- how many bytes lines have, each with LF
abbrev pub size : List (List ℕ) → ℕ
size [] = 0
size (line ∷ lines) = length line + 1 + size lines

lines-short : (lines : List (List ℕ)) → length (flat_map text_line lines) ≤ 2 * size lines
lines-short [] = omega arith
lines-short (line ∷ lines) =
    let first = line-short line in
    let more = lines-short lines in
    omega (arith, length-append (text_line line) (flat_map text_line lines))

onto-size : (byte n : ℕ) (lines : List (List ℕ)) → size lines ≤ n + 1
    → size (onto_first byte lines) ≤ n + 2
onto-size byte n [] few = omega arith
onto-size byte n (line ∷ lines) few = omega arith

lines-size : (bytes : List ℕ) → size (lines_of bytes) ≤ length bytes + 1
lines-size [] = omega arith
lines-size (byte ∷ bytes) = by_test (eqb byte 10) (lines-size bytes)
  where
    by_test : (b : Bool) → size (lines_of bytes) ≤ length bytes + 1
        → size (cond b ([] ∷ lines_of bytes) (onto_first byte (lines_of bytes))) ≤ suc
        (length bytes) + 1
    by_test true few = omega arith
    by_test false few = let more = onto-size byte (length bytes) (lines_of bytes) few in omega arith

-- a text has at most twice the bytes of its file and five more
pub text-short : (contents : List ℕ) → length (text_of contents) ≤ 2 * length contents + 5
unfolding text_of
text-short contents =
    let lines = lines-short (lines_of contents) in
    let all = lines-size contents in
    omega (arith, length-append (flat_map text_line (lines_of contents)) last_line)

-- ---- the files of a site

-- each file has at most as many bytes as all together
pub named-short : (files : List File) (name : List ℕ) (file : File) → file_named name files ≡ Some
    file → length file.1 ≤ bytes_of files
named-short [] name file is = absurd (cc)
named-short (first ∷ files) name file is =
    let all : bytes_of (first ∷ files) ≡ length first.1 + bytes_of files = sum_by-cons
    (λ (f : File). length f.1) first files in
    by_test (bytes_eq first.0 name) is (named-short files name file) all
  where
    by_test : (b : Bool) → cond b (Some first) (file_named name files) ≡ Some file
        → (file_named name files ≡ Some file → length file.1 ≤ bytes_of files)
        → bytes_of (first ∷ files) ≡ length first.1 + bytes_of files → length file.1 ≤ bytes_of
        (first ∷ files)
    by_test true here later all =
        let same : first ≡ file = cc in let l = ap (λ (f : File). length f.1) same in omega arith
    by_test false there later all = let few = later there in omega arith

-- ---- menus

-- the name of a file is as short as a site wants it, and so is what is displayed of it
abbrev IsShort : File → Type 0
IsShort file = length file.0 ≤ 1024

abbrev pub IsShortItem : Item → Type 0
IsShortItem item = length item.0 ≤ 1024

-- no more items than files, each of which has a name as short as theirs
pub record AreFew (n : ℕ) (items : List Item) : Type 0 where
  pub count : length items ≤ n
  pub names : All IsShortItem items

insert-count : {K : Type 0} (cmp : K → K → Ordering) (keys : List K) (key : K)
    → length (insert_key cmp keys key) ≤ length keys + 1
insert-count cmp [] key = omega arith
insert-count cmp (k ∷ keys) key = by_order (cmp key k) (insert-count cmp keys key)
  where
    by_order : (o : Ordering) → length (insert_key cmp keys key) ≤ length keys + 1
        → length (match_ordering o (key ∷ k ∷ keys) (k ∷ keys) (k ∷ insert_key cmp keys key)) ≤ suc
        (length keys) + 1
    by_order Less few = omega arith
    by_order Equal few = omega arith
    by_order Greater few = omega arith

up_to-short : (name rest : List ℕ) (at : Option ℕ) → length rest ≤ 1024
    → length (item_up_to name rest at).0 ≤ 1024
up_to-short name rest None few = few
up_to-short name rest (Some at) few = let l = length-take at rest in omega arith

in-short : (folder name : List ℕ) → length name ≤ 1024 → IfSome (item_in folder name) IsShortItem
in-short folder name few = by_test (is_listed name && starts_with nat_eq name folder)
  where
    by_test : (b : Bool)
        → IfSome (cond b (Some (item_of name (drop (length folder) name))) None) IsShortItem
    by_test true =
        up_to-short name (drop (length folder) name) (position is_slash
        (drop (length folder) name)) (let l = length-drop (length folder) name in omega arith)
    by_test false = tt

found-few : (folder : List ℕ) (files : List File) (n : ℕ) (items : List Item) → All IsShort files
    → AreFew n items
    → AreFew (n + length files) (fold (insert_key item_cmp) items
    (filter_map (λ (file : File). item_in folder file.0) files))
found-few folder [] n items short are = record {
  count = let c = are.count in
      omega arith;
  names = are.names;
}
found-few folder (file ∷ files) n items short are =
    by_item (item_in folder file.0) (in-short folder file.0 (All-head IsShort file files short))
    (λ m more few. found-few folder files m more (All-tail IsShort file files short) few)
  where
    by_item : (o : Option Item) → IfSome o IsShortItem
        → ((m : ℕ) (more : List Item) → AreFew m more → AreFew (m + length files)
        (fold (insert_key item_cmp) more (filter_map (λ (f : File). item_in folder f.0) files)))
        → AreFew (n + suc (length files)) (fold (insert_key item_cmp) items
        (cons_option o (filter_map (λ (f : File). item_in folder f.0) files)))
    by_item None short later =
        let few = later n items are in record {
          count = let c = AreFew.count few in
              omega arith;
          names = AreFew.names few;
        }
    by_item (Some item) short later =
        let few = later (n + 1) (insert_key item_cmp items item)
        (record {
          count = let c = are.count in let i = insert-count item_cmp items item in
              omega arith;
          names = All-insert_key item_cmp item IsShortItem items are.names short;
        })
        in
        record { count = let c = AreFew.count few in omega arith; names = AreFew.names few }

items-few : (files : List File) (folder : List ℕ) → All IsShort files
    → AreFew (length files) (items_of files folder)
items-few files folder short =
    let few = found-few folder files 0 [] short (record {
      count = omega arith;
      names =
          λ k d l. absurd (omega arith);
    }) in record {
      count = let c = AreFew.count few in
          omega arith;
      names = AreFew.names few;
    }

-- how many bytes a line of a menu has at most
abbrev pub line_limit : ℕ
line_limit = 4400

slash-short : (item : Item) → length (slash_after item.1) ≤ 1
slash-short (name, Text) = omega arith
slash-short (name, Binary) = omega arith
slash-short (name, Folder) = omega arith

menu_line-short : (place : Place) (folder : List ℕ) (item : Item) → length place.host ≤ 255
    → place.port < 65536 → length folder ≤ 1025 → length item.0 ≤ 1024
    → length (menu_line place folder item) ≤ line_limit
menu_line-short place folder item host port path name =
    let digits = length-decimal-le 5 place.port (omega arith) (omega arith) (omega arith) in
    let slash = slash-short item in
    omega (
      arith,
      length-append item.0 (tabbed (selector_to folder item) ++
          (tabbed place.host ++ (tabbed (decimal place.port) ++ line_end))),
      length-append (tabbed (selector_to folder item)) (tabbed place.host ++
          (tabbed (decimal place.port) ++ line_end)),
      length-append folder (item.0 ++ slash_after item.1),
      length-append item.0 (slash_after item.1),
      length-append (tabbed place.host) (tabbed (decimal place.port) ++ line_end),
      length-append (tabbed (decimal place.port)) line_end,
    )

lines-within : (place : Place) (folder : List ℕ) (items : List Item) → length place.host ≤ 255
    → place.port < 65536 → length folder ≤ 1025
    → All IsShortItem items → length (flat_map (menu_line place folder) items) ≤ line_limit *
    length items
lines-within place folder [] host port path names = omega arith
lines-within place folder (item ∷ items) host port path names =
    let first =
    menu_line-short place folder item host port path (All-head IsShortItem item items names) in
    let more =
    lines-within place folder items host port path (All-tail IsShortItem item items names) in
    omega (
      arith,
      length-append (menu_line place folder item)
          (flat_map (menu_line place folder) items),
    )

-- the menu of a folder whose path is as short as the names of files
menu-short : (place : Place) (folder : List ℕ) → IsHall place → length folder ≤ 1025
    → length (menu_of place folder) ≤ line_limit * 1048576 + 3
unfolding menu_of
menu-short place folder hall path =
    let few = items-few place.files folder hall.limits.names in
    let lines =
    lines-within place folder (items_of place.files folder) hall.host hall.port path
    (AreFew.names few) in
    let count = AreFew.count few in
    let files = hall.limits.count in
    omega (
      arith,
      length-append (flat_map (menu_line place folder)
          (items_of place.files folder)) last_line,
    )

-- ---- answers

-- a path that begins the name of a file is as short as it
begins-short : (files : List File) (path : List ℕ) → All IsShort files
    → begins_name files path ≡ true → length path ≤ 1024
begins-short [] path short is = absurd (cc)
begins-short (file ∷ files) path short is =
    by_test (starts_with nat_eq file.0 path) refl is (λ later. begins-short files path
    (All-tail IsShort file files short) later)
  where
    by_test : (b : Bool) → b ≡ starts_with nat_eq file.0 path
        → (b || begins_name files path) ≡ true → (begins_name files path ≡ true
        → length path ≤ 1024) → length path ≤ 1024
    by_test true e is later =
        let whole =
        ap length ((starts_is Decides-eqb file.0 path (starts_with nat_eq file.0 path) refl).0
        (sym e)) in
        let name = All-head IsShort file files short in
        omega (arith, length-append path (drop (length path) file.0))
    by_test false e is later = later is

file-short : (files : List File) (name : List ℕ) (file : File) → bytes_of files ≤ size_limit
    → file_named name files ≡ Some file → length (reply_to_file name file) ≤ text_limit
file-short files name file few is = by_test (is_text name)
  where
    contents : length file.1 ≤ bytes_of files
    contents = named-short files name file is

    by_test : (b : Bool) → length (cond b (text_of file.1) file.1) ≤ text_limit
    by_test true = let text = text-short file.1 in let c = contents in omega arith
    by_test false = let c = contents in omega arith

folder-short : (place : Place) (name : List ℕ) → IsHall place
    → length (reply_to_folder place name) ≤ text_limit
folder-short place name hall =
    by_tests (not (bytes_eq (as_folder name) (47 ∷ [])))
    (begins_name place.files (as_folder name)) refl
  where
    by_tests : (a b : Bool) → begins_name place.files (as_folder name) ≡ b
        → length (cond (a && b) (menu_of place (as_folder name)) not_found) ≤ text_limit
    by_tests true true is =
        let path = begins-short place.files (as_folder name) hall.limits.names is in
        let menu = menu-short place (as_folder name) hall (omega arith) in
        omega arith
    by_tests true false is = omega arith
    by_tests false b is = omega arith

to-short : (place : Place) (name : List ℕ) → IsHall place
    → length (reply_to place name) ≤ text_limit
to-short place [] hall = let menu = menu-short place [] hall (omega arith) in omega arith
to-short place (byte ∷ name) hall = by_file (file_named (byte ∷ name) place.files) refl
  where
    by_file : (o : Option File) → file_named (byte ∷ name) place.files ≡ o
        → length (reply_to_found place (byte ∷ name) o) ≤ text_limit
    by_file None is = folder-short place (byte ∷ name) hall
    by_file (Some file) is = file-short place.files (byte ∷ name) file hall.limits.bytes is

-- no answer has more bytes
pub reply-short : (place : Place) (selector : List ℕ) → IsHall place → length
    (reply_of place selector) ≤ text_limit
unfolding reply_of
reply-short place selector hall = to-short place (without_first_slash selector) hall
