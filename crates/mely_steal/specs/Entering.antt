-- Colours in three classes, in the order in which each entered its class.
use Rattle.std.specs.Prelude.{◌≡◌, ◌≢◌, ◌<◌, ◌≤◌, ◌==◌, ◌⊎◌, ◌++◌, ℕ, Bool, not, nat_lt, List, [], ◌∷◌, map, filter, find, length, slice_index, slice_index_or, if◌then◌else◌}
use Rattle.std.specs.List.{list_any}
use Rattle.std.specs.Option.{option_map_or}
use Rattle.mely_steal.specs.declared.links.TheConstants.{MAX_PLACES}
use Rattle.mely_steal.specs.declared.links.Link.{Link}
use Rattle.mely_steal.specs.declared.links.Ends.{Ends}
use Rattle.mely_steal.specs.Links.{list_at, places_of, IsStrung}

-- a colour that entered a class
pub record Ranked : Type 0 where
  pub colour : ℕ
  pub class : ℕ

-- colours in the order in which each entered its class, and the number of
-- colours that there is room for
pub record ClassesState : Type 0 where
  pub entries : List Ranked
  pub places : ℕ

-- the entries of a class, and of all colours but one
abbrev pub of_class : ℕ → List Ranked → List Ranked
of_class class entries = filter (λ entry. entry.class == class) entries

-- the entries but that of the colour
abbrev pub entries_without : ℕ → List Ranked → List Ranked
entries_without colour entries = filter (λ entry. not (entry.colour == colour)) entries

-- whether a colour has an entry, and its class, which is 0 where it has none
abbrev pub has_entry : ℕ → List Ranked → Bool
has_entry colour entries = list_any (λ entry. entry.colour == colour) entries

-- the class of the colour, and 0 where it has no entry
abbrev pub class_in : ℕ → List Ranked → ℕ
class_in colour entries =
    option_map_or (λ entry. entry.class) (find (λ entry. entry.colour == colour) entries) 0

-- the entries once a colour that has none entered a class, which is none where it is 0
abbrev pub joined_by : ℕ → ℕ → List Ranked → List Ranked
joined_by class colour entries =
    if class == 0 then entries else entries ++ record { colour = colour; class = class } ∷ []

-- the entries once a colour was moved to a class
abbrev pub moved_to : ℕ → ℕ → List Ranked → List Ranked
moved_to class colour entries = if class_in colour entries == class then entries else joined_by
    class colour (entries_without colour entries)

-- these colours are of the class
abbrev pub ranks_of : ℕ → List ℕ → List Ranked
ranks_of class colours = map (λ colour. record { colour = colour; class = class }) colours

-- an entry put before the first that has a greater number, and entries by their numbers
abbrev pub insert_by_number : (ℕ → ℕ) → Ranked → List Ranked → List Ranked
insert_by_number number entry [] = entry ∷ []
insert_by_number number entry (next ∷ entries) =
    if nat_lt (number entry.colour) (number next.colour) then entry ∷ next ∷ entries
    else next ∷ insert_by_number number entry entries

-- the entries in the order of their numbers
abbrev pub by_number : (ℕ → ℕ) → List Ranked → List Ranked
by_number number [] = []
by_number number (entry ∷ entries) = insert_by_number number entry (by_number number entries)

-- the one list of three classes, by the numbers of entering
abbrev pub merge_classes : (ℕ → ℕ) → List ℕ → List ℕ → List ℕ → List Ranked
merge_classes number one two three =
    by_number number (ranks_of 1 one ++ (ranks_of 2 two ++ ranks_of 3 three))

-- the number of the entry is below those of the others
abbrev pub IsLeast : (ℕ → ℕ) → Ranked → List Ranked → Type 0
IsLeast number entry [] = Unit {0}
IsLeast number entry (next ∷ entries) = (number entry.colour < number next.colour)
    × IsLeast number entry entries

-- the numbers rise
abbrev pub IsAscending : (ℕ → ℕ) → List Ranked → Type 0
IsAscending number [] = Unit {0}
IsAscending number (entry ∷ entries) = IsLeast number entry entries × IsAscending number entries

-- the entries are in classes 1 to 3
abbrev pub AreClassed : List Ranked → Type 0
AreClassed [] = Unit {0}
AreClassed (entry ∷ entries) = ((entry.class ≡ 1) ⊎ ((entry.class ≡ 2) ⊎ (entry.class ≡ 3)))
    × AreClassed entries

-- the entries by their numbers, of which these are the classes
pub record IsMerged (number : ℕ → ℕ) (entries : List Ranked) (one two three : List ℕ) : Type 0 where
  pub ascending : IsAscending number entries
  pub classed : AreClassed entries
  pub ones : of_class 1 entries ≡ ranks_of 1 one
  pub twos : of_class 2 entries ≡ ranks_of 2 two
  pub threes : of_class 3 entries ≡ ranks_of 3 three

-- the number of a colour's entering
abbrev pub number_at : List ℕ → ℕ → ℕ
number_at numbers colour = slice_index numbers colour

-- no list
abbrev pub no_ends : Ends
no_ends = record { first = 0; last = 0; len = 0 }

-- the ends of a class's list
abbrev pub ends_at : List Ends → ℕ → Ends
ends_at ends place = slice_index_or ends place no_ends

-- the one list of a table of links with the ends of three lists, and numbers
abbrev pub entries_of : List Link → List Ends → List ℕ → List Ranked
entries_of links ends numbers = merge_classes (number_at numbers) (places_of links (ends_at ends 0))
    (places_of links (ends_at ends 1)) (places_of links (ends_at ends 2))

-- the entries are the same by other numbers
abbrev pub KeepsEntries : List Link → List Ends → List ℕ → List ℕ → Type 0
KeepsEntries links ends old new = entries_of links ends new ≡ entries_of links ends old

-- each number of an entry is below the next one
abbrev pub AreBelow : (ℕ → ℕ) → ℕ → List Ranked → Type 0
AreBelow number next [] = Unit {0}
AreBelow number next (entry ∷ entries) = (number entry.colour < next) × AreBelow number next entries

-- three lists in one table with numbers of entering: each list is strung, and the one list is by
-- the numbers, which are below the next one
pub record StandInOrder (links : List Link) (ends : List Ends) (numbers : List ℕ)
    (next : ℕ) : Type 0 where
  pub many : length ends ≡ 3
  pub small : length links ≤ MAX_PLACES
  pub numbered : length numbers ≡ length links
  pub classes : (place : ℕ) → list_at links place ≤ 3
  pub one : IsStrung 1 links (ends_at ends 0)
  pub two : IsStrung 2 links (ends_at ends 1)
  pub three : IsStrung 3 links (ends_at ends 2)
  pub merge : IsMerged (number_at numbers) (entries_of links ends numbers)
      (places_of links (ends_at ends 0)) (places_of links (ends_at ends 1))
      (places_of links (ends_at ends 2))
  pub below : AreBelow (number_at numbers) next (entries_of links ends numbers)

-- the first place of each list that isn't empty has a number
abbrev pub HasNumbers : List Ends → List ℕ → Type 0
HasNumbers ends numbers = (class : ℕ) → class < length ends → (ends_at ends class).len ≢ 0
    → (ends_at ends class).first < length numbers

-- this one of two lists isn't empty where one of them isn't, and its first place
-- then has the smallest number
pub record IsOlder (ends : List Ends) (numbers : List ℕ) (one other older : ℕ) : Type 0 where
  pub is : (older ≡ one) ⊎ (older ≡ other)
  pub before_one : (ends_at ends one).len ≢ 0 → ((ends_at ends older).len ≢ 0)
      × (number_at numbers (ends_at ends older).first ≤ number_at numbers (ends_at ends one).first)
  pub before_other : (ends_at ends other).len ≢ 0 → ((ends_at ends older).len ≢ 0)
      × (number_at numbers (ends_at ends older).first
      ≤ number_at numbers (ends_at ends other).first)
