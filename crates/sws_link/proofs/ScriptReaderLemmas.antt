-- One item of a link in memory, and the items in a row.
use Rattle.std.specs.Prelude.{min, map}
use Rattle.std.specs.List.{drop-map, take-map}
use Rattle.std.proofs.Common.{◌≡◌, ℕ, suc, ◌+◌, ◌-◌, ◌<◌, ◌≤◌, Bool, true, false, nat_le, List, [], ◌∷◌, ◌++◌, length, take, drop, get_or, Option, Some, None, refl, sym, ap, ◌∙◌, subst, arith, append_assoc, append-nil, length-take, length-drop, take_all, take-append-drop, drop-drop, drop-cons, add-one, leb-true, leb-false}
use Rattle.std.proofs.Math.Seq.{take-append-add}
use Rattle.std.proofs.lemmas.List.{drop_all, take_more}
use Rattle.sws_link.specs.declared.LinkRead.{LinkRead}
use Rattle.sws_link.specs.declared.LinkRead.TheVariants.{Took}
use Rattle.sws_link.specs.declared.link_item.LinkItem.{LinkItem}
use Rattle.sws_link.specs.Links.{given_by, IsReadWithin}
use Rattle.sws_link.specs.Scripts.{Item, piece, wait, fault, read_of}
use Rattle.sws_link.specs.LinkItems.{item_of, bytes_of, all_bytes}
use Rattle.sws_link.specs.ScriptReader.{rest_of_item, size_of, left_of, given_of, IsUsed, Plays, GivesPiece}

-- a front that is as long as all there is
take_min_room : (room : ℕ) (bytes : List ℕ) → take (min room (length bytes)) bytes ≡ take room bytes
take_min_room room bytes = by_fit (nat_le room (length bytes)) refl
  where
    by_fit : (t : Bool) → t ≡ nat_le room (length bytes) → take (min room (length bytes)) bytes ≡ take room bytes
    by_fit true e = let le = leb-true room (length bytes) (sym e) in
        ap (λ n. take n bytes) (let same : min room (length bytes) ≡ room = omega arith in same)
    by_fit false e = let lt = leb-false room (length bytes) (sym e) in
        take_all (min room (length bytes)) bytes (omega arith) ∙ sym (take_all room bytes (omega arith))

drop_min : (room : ℕ) (bytes : List ℕ) → drop (min room (length bytes)) bytes ≡ drop room bytes
drop_min room bytes = by_fit (nat_le room (length bytes)) refl
  where
    by_fit : (t : Bool) → t ≡ nat_le room (length bytes) → drop (min room (length bytes)) bytes ≡ drop room bytes
    by_fit true e = let le = leb-true room (length bytes) (sym e) in
        ap (λ n. drop n bytes) (let same : min room (length bytes) ≡ room = omega arith in same)
    by_fit false e = let lt = leb-false room (length bytes) (sym e) in
        drop_all (min room (length bytes)) bytes (omega arith) ∙ sym (drop_all room bytes (omega arith))

read_piece : (room : ℕ) (bytes : List ℕ) (rest : List Item) → 0 < length bytes
    → read_of room (piece bytes ∷ rest) ≡ record { answer = Took (min room (length bytes)); bytes = take room bytes; items = piece (drop room bytes) ∷ rest }
read_piece room [] rest some = absurd (omega arith)
read_piece room (byte ∷ bytes) rest some = refl

-- a piece of which some is used up
pub plays_piece : (bytes left into : List ℕ) (used room : ℕ) (result : Option (LinkRead × ℕ)) → left ≡ drop used bytes → used ≤ length bytes → 0 < room
    → GivesPiece left used room result into → Plays (piece bytes) used room result into
plays_piece bytes left into used room None is fits some none =
    let empty : drop used bytes ≡ [] = sym is ∙ none in (
      (λ rest. ap (λ b. read_of room (piece b ∷ rest)) empty),
      take_all used bytes (let l = ap length empty in omega (arith, length-drop used bytes)),
    )
plays_piece bytes left into used room (Some (answer, now)) is fits some (answer_is, now_is, front, more) =
    let count = min room (length left) in
    let long : length left ≡ length bytes - used = ap length is ∙ length-drop used bytes in
    let given : given_by answer into ≡ take room left = ap (λ a. given_by a into) answer_is ∙ front in
    let left_is : drop now bytes ≡ drop room left =
    ap (λ n. drop n bytes) now_is ∙ sym (drop-drop count used bytes) ∙ ap (drop count) (sym is) ∙ drop_min room left in
    let used_long : length (take used bytes) ≡ used = (omega (arith, length-take used bytes)) in (
      (λ rest. ap (λ b. read_of room (piece b ∷ rest)) (sym is) ∙ read_piece room left rest more
          ∙ ap (λ a. record { answer = a; bytes = take room left; items = piece (drop room left) ∷ rest }) (sym answer_is)
          ∙ ap (λ b. record { answer = answer; bytes = b; items = piece (drop room left) ∷ rest }) (sym given)
          ∙ ap (λ b. record { answer = answer; bytes = given_by answer into; items = piece b ∷ rest }) (sym left_is)),
      ap (λ n. take n bytes) (now_is ∙ ap (λ n. n + count) (sym used_long))
          ∙ ap (take (length (take used bytes) + count)) (sym (take-append-drop used bytes))
          ∙ take-append-add (take used bytes) (drop used bytes) count
          ∙ ap (λ l. take used bytes ++ take count l) (sym is) ∙ ap (λ l. take used bytes ++ l) (take_min_room room left ∙ sym given),
      omega arith,
      subst (λ a. IsReadWithin a room) (sym answer_is) (omega arith, omega arith),
    )

-- ---- the items in a row

pub drop_at : (items : List LinkItem) (at : ℕ) (item : LinkItem) → at < length items → item ≡ get_or items at item
    → drop at (map item_of items) ≡ item_of item ∷ drop (at + 1) (map item_of items)
drop_at items at item lt is =
    drop-map item_of at items ∙ ap (map item_of) (drop-cons items at item lt ∙ ap (λ i. i ∷ drop (suc at) items) (sym is))
    ∙ ap (λ l. item_of item ∷ l) (sym (drop-map item_of (suc at) items)) ∙ ap (λ n. item_of item ∷ drop n (map item_of items)) (sym (add-one at))

pub take_at_item : (items : List LinkItem) (at : ℕ) (item : LinkItem) → at < length items → item ≡ get_or items at item
    → all_bytes (take (at + 1) (map item_of items)) ≡ all_bytes (take at (map item_of items)) ++ bytes_of (item_of item)
take_at_item items at item lt is =
    ap all_bytes (take-map item_of (at + 1) items ∙ ap (map item_of) (take_more items at item lt ∙ ap (λ i. take at items ++ i ∷ []) (sym is)))
    ∙ bytes_snoc (take at items) item ∙ ap (λ l. all_bytes l ++ bytes_of (item_of item)) (sym (take-map item_of at items))
  where
    bytes_snoc : (items : List LinkItem) (item : LinkItem) → all_bytes (map item_of (items ++ item ∷ [])) ≡ all_bytes (map item_of items) ++ bytes_of (item_of item)
    bytes_snoc [] item = append-nil (bytes_of (item_of item))
    bytes_snoc (first ∷ items) item =
        ap (λ l. bytes_of (item_of first) ++ l) (bytes_snoc items item)
        ∙ sym (append_assoc (bytes_of (item_of first)) (all_bytes (map item_of items)) (bytes_of (item_of item)))

-- nothing is used up of the first item
left_of-zero : (items : List Item) → left_of 0 items ≡ items
left_of-zero [] = refl
left_of-zero (piece bytes ∷ items) = refl
left_of-zero (wait count ∷ items) = ap (λ n. wait n ∷ items) (let same : count - 0 ≡ count = omega arith in same)
left_of-zero (fault ∷ items) = refl

given_of-zero : (items : List Item) → given_of 0 items ≡ []
given_of-zero [] = refl
given_of-zero (item ∷ items) = refl

pub IsUsed-zero : (items : List Item) → IsUsed 0 items
IsUsed-zero [] = refl
IsUsed-zero (item ∷ items) = omega arith

-- ---- what the loop keeps, over the items from the first that may be left on

-- the first item is within its size
pub used_within : (used : ℕ) (all rest : List Item) (item : Item) → all ≡ item ∷ rest → IsUsed used all → used ≤ size_of item
used_within used all rest item e ok = subst (IsUsed used) e ok

-- the item is used up: the next ones are read
pub passed_read : (used room : ℕ) (all rest : List Item) (item : Item) (into : List ℕ) → all ≡ item ∷ rest → Plays item used room None into
    → read_of room (left_of 0 rest) ≡ read_of room (left_of used all)
passed_read used room all rest item into e plays =
    ap (read_of room) (left_of-zero rest) ∙ sym (plays.0 rest) ∙ ap (λ l. read_of room (left_of used l)) (sym e)

pub passed_taken : (used room : ℕ) (all rest : List Item) (item : Item) (into before : List ℕ) → all ≡ item ∷ rest → Plays item used room None into
    → (before ++ bytes_of item) ++ given_of 0 rest ≡ before ++ given_of used all
passed_taken used room all rest item into before e plays =
    ap (λ l. (before ++ bytes_of item) ++ l) (given_of-zero rest) ∙ append-nil (before ++ bytes_of item)
    ∙ ap (λ l. before ++ l) (sym plays.1) ∙ ap (λ l. before ++ given_of used l) (sym e)

-- the item answers
pub played_taken : (used now room : ℕ) (all rest : List Item) (item : Item) (answer : LinkRead) (into before : List ℕ) → all ≡ item ∷ rest
    → Plays item used room (Some (answer, now)) into → before ++ given_of now all ≡ (before ++ given_of used all) ++ given_by answer into
played_taken used now room all rest item answer into before e plays =
    ap (λ l. before ++ given_of now l) e ∙ ap (λ l. before ++ l) plays.1
    ∙ sym (append_assoc before (take used (bytes_of item)) (given_by answer into))
    ∙ ap (λ l. (before ++ given_of used l) ++ given_by answer into) (sym e)

pub read_as : (used room size : ℕ) (all rest : List Item) (item : Item) (answer : LinkRead) (now : ℕ) (into : List ℕ) (first : List Item) → all ≡ item ∷ rest
    → room ≡ size → read_of size (left_of used all) ≡ read_of size first → Plays item used room (Some (answer, now)) into
    → read_of size first ≡ record { answer = answer; bytes = given_by answer into; items = rest_of_item now item ∷ rest }
read_as used room size all rest item answer now into first e same read plays =
    sym read ∙ ap (λ n. read_of n (left_of used all)) (sym same) ∙ ap (λ l. read_of room (left_of used l)) e ∙ plays.0 rest
