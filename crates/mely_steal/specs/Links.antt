-- Lists by links in one table.
use Rattle.std.specs.Prelude.{◌≡◌, ◌<◌, ◌==◌, ◌⊎◌, ℕ, zero, suc, Bool, true, false, not, List, [], ◌∷◌, length, filter, slice_index_or}
use Rattle.std.specs.List.{list_any}
use Rattle.mely_steal.specs.declared.links.Link.{Link}
use Rattle.mely_steal.specs.declared.links.Ends.{Ends}

-- a place that is in no list
abbrev pub blank_link : Link
blank_link = record { list = 0; before = 0; after = 0 }

-- what the table says of a place: the number of the list that it is in, 0 where it is in none,
-- and its neighbours there
abbrev pub list_at : List Link → ℕ → ℕ
list_at links place = (slice_index_or links place blank_link).list

-- the place before this one, by its link
abbrev pub before_at : List Link → ℕ → ℕ
before_at links place = (slice_index_or links place blank_link).before

-- the place behind this one, by its link
abbrev pub after_at : List Link → ℕ → ℕ
after_at links place = (slice_index_or links place blank_link).after

-- so many places, this one first, and behind each the one that its link names
abbrev pub places_from : (ℕ → ℕ) → ℕ → ℕ → List ℕ
places_from after zero place = []
places_from after (suc n) place = place ∷ places_from after n (after place)

-- the list that has these ends
abbrev pub places_of : List Link → Ends → List ℕ
places_of links ends = places_from (after_at links) ends.len ends.first

-- the place is in the list
abbrev pub is_in : List ℕ → ℕ → Bool
is_in places place = list_any (λ other. place == other) places

-- the list without a place
abbrev pub without_place : ℕ → List ℕ → List ℕ
without_place place places = filter (λ other. not (place == other)) places

-- no place is twice in the list
abbrev pub AreDistinct : List ℕ → Type 0
AreDistinct [] = Unit {0}
AreDistinct (place ∷ places) = (is_in places place ≡ false) × AreDistinct places

-- the last of the list, which begins with the first of the two
abbrev pub last_from : ℕ → List ℕ → ℕ
last_from place [] = place
last_from place (next ∷ places) = last_from next places

-- the list of places, if it has any, ends with this one
abbrev pub LastIs : ℕ → List ℕ → Type 0
LastIs last [] = Unit {0}
LastIs last (place ∷ places) = last_from place places ≡ last

-- of each two neighbours the first names the second as the one behind it, and the second the
-- first as the one before it
abbrev pub AreJoinedFrom : (ℕ → ℕ) → (ℕ → ℕ) → ℕ → List ℕ → Type 0
AreJoinedFrom after before place [] = Unit {0}
AreJoinedFrom after before place (next ∷ places) = (after place ≡ next) × (before next ≡ place)
    × AreJoinedFrom after before next places

-- neighbours of the list name one another
abbrev pub AreJoined : (ℕ → ℕ) → (ℕ → ℕ) → List ℕ → Type 0
AreJoined after before [] = Unit {0}
AreJoined after before (place ∷ places) = AreJoinedFrom after before place places

-- the list of this number, which has these ends: neighbours name one another, and it has exactly
-- the places that say that they are in it, each once
pub record IsStrung (number : ℕ) (links : List Link) (ends : Ends) : Type 0 where
  pub joined : AreJoined (after_at links) (before_at links) (places_of links ends)
  pub last : LastIs ends.last (places_of links ends)
  pub apart : AreDistinct (places_of links ends)
  pub below : (place : ℕ) → is_in (places_of links ends) place ≡ true → place < length links
  pub exact : (place : ℕ) → place < length links → is_in (places_of links ends) place
      ≡ (list_at links place == number)

-- all places but this one are in the lists that they were in
pub record MovesOnly (place list : ℕ) (old new : List Link) : Type 0 where
  pub long : length new ≡ length old
  pub here : list_at new place ≡ list
  pub others : (other : ℕ) → (place ≡ other → ⊥) → list_at new other ≡ list_at old other

-- every list but the one of this number stays
abbrev pub SparesOthers : ℕ → List Link → List Link → Type 0
SparesOthers number old new = (other : ℕ) (ends : Ends) → 0 < other → (other ≡ number → ⊥)
    → IsStrung other old ends → (places_of new ends ≡ places_of old ends) × IsStrung other new ends

-- one place's link behind it is written, and nothing else
pub record SetsAfter (place after : ℕ) (old new : List Link) : Type 0 where
  pub long : length new ≡ length old
  pub lists : (other : ℕ) → list_at new other ≡ list_at old other
  pub befores : (other : ℕ) → before_at new other ≡ before_at old other
  pub here : after_at new place ≡ after
  pub others : (other : ℕ) → (place ≡ other → ⊥) → after_at new other ≡ after_at old other

-- one place's link before it is written, and nothing else
pub record SetsBefore (place before : ℕ) (old new : List Link) : Type 0 where
  pub long : length new ≡ length old
  pub lists : (other : ℕ) → list_at new other ≡ list_at old other
  pub afters : (other : ℕ) → after_at new other ≡ after_at old other
  pub here : before_at new place ≡ before
  pub others : (other : ℕ) → (place ≡ other → ⊥) → before_at new other ≡ before_at old other

-- one place's number of a list is written, and nothing else
pub record SetsList (place list : ℕ) (old new : List Link) : Type 0 where
  pub moves : MovesOnly place list old new
  pub afters : (other : ℕ) → after_at new other ≡ after_at old other
  pub befores : (other : ℕ) → before_at new other ≡ before_at old other

-- one place's links are written, and no others
pub record SetsLink (place : ℕ) (link : Link) (old new : List Link) : Type 0 where
  pub moves : MovesOnly place link.list old new
  pub before : before_at new place ≡ link.before
  pub befores : (other : ℕ) → (place ≡ other → ⊥) → before_at new other ≡ before_at old other
  pub afters : (other : ℕ) → (place ≡ other → ⊥) → after_at new other ≡ after_at old other

-- the place before a place has the one behind it as its next, and where there is none before,
-- the list begins behind it
pub record JoinsBehind (place : ℕ) (link : Link) (first : ℕ) (old new : List Link) : Type 0 where
  pub long : length new ≡ length old
  pub lists : (other : ℕ) → list_at new other ≡ list_at old other
  pub befores : (other : ℕ) → before_at new other ≡ before_at old other
  pub here : (first ≡ place → ⊥) → after_at new link.before ≡ link.after
  pub others : (other : ℕ) → ((first ≡ place) ⊎ (link.before ≡ other → ⊥))
      → after_at new other ≡ after_at old other

-- the place behind a place has the one before it as its own, and where there is none
-- behind, the list ends before it
pub record JoinsBefore (place : ℕ) (link : Link) (last : ℕ) (old new : List Link) : Type 0 where
  pub long : length new ≡ length old
  pub lists : (other : ℕ) → list_at new other ≡ list_at old other
  pub afters : (other : ℕ) → after_at new other ≡ after_at old other
  pub here : (last ≡ place → ⊥) → before_at new link.after ≡ link.before
  pub others : (other : ℕ) → ((last ≡ place) ⊎ (link.after ≡ other → ⊥))
      → before_at new other ≡ before_at old other
