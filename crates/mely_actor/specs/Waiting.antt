-- How a colour that has more to send than two messages sends them: the first at once, and the
-- others wait there for turns, which are events of the library's own on the same colour.
use Rattle.std.specs.Prelude.{List, [], ◌∷◌, Bool, true, false}

-- whether a turn is registered already when an event is run: one is where something waits, but for
-- the one that is run
abbrev pub turning : {X : Type 0} → Bool → List X → Bool
turning true waiting = false
turning false [] = false
turning false (x ∷ waiting) = true

-- Of all that is to be sent so much is put now. Where a turn is registered something is left for
-- it; else up to two are put, or of more the first, since a turn is put with it.
abbrev pub put_now : {X : Type 0} → Bool → List X → List X
put_now true [] = []
put_now true (x ∷ []) = []
put_now true (x ∷ y ∷ []) = x ∷ []
put_now true (x ∷ y ∷ z ∷ more) = x ∷ y ∷ []
put_now false [] = []
put_now false (x ∷ []) = x ∷ []
put_now false (x ∷ y ∷ []) = x ∷ y ∷ []
put_now false (x ∷ y ∷ z ∷ more) = x ∷ []

-- and the rest waits
abbrev pub put_later : {X : Type 0} → Bool → List X → List X
put_later true [] = []
put_later true (x ∷ []) = x ∷ []
put_later true (x ∷ y ∷ []) = y ∷ []
put_later true (x ∷ y ∷ z ∷ more) = z ∷ more
put_later false [] = []
put_later false (x ∷ []) = []
put_later false (x ∷ y ∷ []) = []
put_later false (x ∷ y ∷ z ∷ more) = y ∷ z ∷ more

-- more than two
abbrev pub are_many : {X : Type 0} → List X → Bool
are_many [] = false
are_many (x ∷ []) = false
are_many (x ∷ y ∷ []) = false
are_many (x ∷ y ∷ z ∷ more) = true

-- whether a turn is put, where so much waited before an event and so much is to be sent with what
-- it sends: by an event that is no turn where nothing waited, by a turn where something did. A turn
-- for which nothing waits puts itself again: none is ever registered, but one handler alone doesn't
-- know it.
abbrev pub turn_is_put : {X : Type 0} → Bool → List X → List X → Bool
turn_is_put true [] all = true
turn_is_put true (x ∷ waiting) all = are_many all
turn_is_put false [] all = are_many all
turn_is_put false (x ∷ waiting) all = false
