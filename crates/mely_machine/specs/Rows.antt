-- Worked rows: what the definition comes to on small machines, worked out by hand.
use Rattle.std.specs.Prelude.{◌≡◌, ℕ, zero, suc, ◌+◌, Bool, true, false, List, [], ◌∷◌, ◌++◌, Option, None, Some, replicate, fold, map, flat_map}
use Rattle.mely_event.specs.declared.colour.Colour.{Colour}
use Rattle.mely_event.specs.declared.event.Event.{Event}
use Rattle.mely_event.specs.declared.mark.Mark.{Mark}
use Rattle.mely_history.specs.declared.entry.Entry.{Entry}
use Rattle.mely_history.specs.declared.entry.Entry.TheVariants.{Reg, Take, Fin, Steal}
use Rattle.mely_machine.specs.Rules.{Rules}
use Rattle.mely_machine.specs.Listing.{Listed, hears, first_to_steal, without_colour}
use Rattle.mely_machine.specs.Machine.{Acts, Machine}
use Rattle.mely_machine.specs.MachineRun.{initial_machine, post, steps, rounds, is_quiet}
use Rattle.mely_history.specs.Schedules.{spelled_out}

-- the colour of this number
abbrev pub col : ℕ → Colour
col n = record { 0 = n }

-- an event of this handler and this argument
abbrev pub event : ℕ → ℕ → Event
event h a = record { handler = h; arg = a }

-- a mark of this colour
abbrev pub mark : ℕ → ℕ → ℕ → Mark
mark c started worth = record { colour = col c; started = started; worth = worth }

-- one shard and groups of four; two handlers of weight 10
abbrev pub small : ℕ → ℕ → ℕ → ℕ → Rules
small cores batch cost pinned = record {
  shape = record { cores = cores; shards = 1; batch = batch; steal_cost = cost; group = 4 };
  rows = (10, 1) ∷ (10, 1) ∷ [];
  pinned = pinned;
}

-- handler 0 registers nothing, handler 1 registers handler 0 with argument 0 on
-- the colour of its argument
abbrev pub puts_of : ℕ → ℕ → List (Colour × Event)
puts_of zero arg = []
puts_of (suc h) arg = (col arg, event 0 0) ∷ []

-- an app whose handlers put events
abbrev pub sends : Acts (Unit {0})
sends x c e = record { puts = puts_of e.handler e.arg; becomes = x }

-- a machine after posts
abbrev pub after_posts : Rules → List (Colour × Event) → Machine (Unit {0})
after_posts rules posts = fold (λ m p. post rules p.0 p.1 m) (initial_machine rules tt) posts

-- a machine after posts and a schedule
abbrev pub after : Rules → List (Colour × Event) → List (ℕ × ℕ) → Machine (Unit {0})
after rules posts schedule = steps rules sends (spelled_out schedule) (after_posts rules posts)

-- the histories after so many rounds and one more, and whether nothing was left
-- before that one and after it
abbrev pub drain_row : Rules → ℕ → Machine (Unit {0}) → List (List Entry) × Bool × Bool
drain_row rules n m = (
  (rounds rules sends (n + 1) m).histories,
  is_quiet (rounds rules sends n m),
  is_quiet (rounds rules sends (n + 1) m),
)

-- a colour that is taken between a registration on it and the report of it
abbrev pub late : Machine (Unit {0})
late = after (small 2 1 15 0) ((col 0, event 1 1) ∷ (col 1, event 0 0) ∷ [])
    ((0, 4) ∷ (1, 5) ∷ (0, 4) ∷ [])

-- a registration between a finish and the push of the mark
abbrev pub before_push : Machine (Unit {0})
before_push = after (small 2 1 15 0)
    ((col 1, event 0 0) ∷ (col 1, event 0 0) ∷ (col 0, event 1 1) ∷ [])
    ((1, 4) ∷ (0, 4) ∷ (0, 1) ∷ (1, 1) ∷ [])

-- ten events of a colour
abbrev pub ten : ℕ → List (Colour × Event)
ten c = replicate 10 (col c, event 0 0)

-- the colours that so many picks take one after another off a list
abbrev pub colour_taken : Option Listed → List ℕ
colour_taken None = []
colour_taken (Some l) = l.mark.colour.0 ∷ []

-- a list of marks without the one that was found
abbrev pub left_after : Option Listed → List Listed → List Listed
left_after None list = list
left_after (Some l) list = without_colour l.mark.colour list

-- the colours of so many picks, one after another
abbrev pub picks : ℕ → ℕ → List Listed → List ℕ
picks zero cost list = []
picks (suc n) cost list = let found = first_to_steal cost 0 list in
    colour_taken found ++ picks n cost (left_after found list)

-- four marks at a cost of 20, pushed one after another, and two reports on colour 0, of which the
-- second is of another period
abbrev pub four : List Listed
four =
    map (hears 20 5 (col 0) 1 90) (map (hears 20 4 (col 0) 0 45)
    (record { mark = mark 0 0 30; since = 0 } ∷ record { mark = mark 1 0 20; since = 1 }
    ∷ record { mark = mark 2 0 50; since = 2 } ∷ record { mark = mark 3 0 90; since = 3 } ∷ []))

-- what small machines come to
pub record WorkedRows : Type 0 where
  -- the highest class first; within a class the mark that is longer in it, though another was
  -- pushed before it; and none of class 0
  pub picked : picks 4 20 four ≡ 3 ∷ 2 ∷ 0 ∷ []
  -- the report of an earlier period comes too late, and raises no mark
  pub late_report : late.histories
      ≡ (Reg (col 0) (event 1 1) 2 ∷ Reg (col 1) (event 0 0) 2 ∷ Take (col 0) 0 1
      ∷ Reg (col 1) (event 0 0) 0 ∷ Take (col 1) 1 1 ∷ Fin (col 1) 1 1 ∷ Fin (col 0) 0 1 ∷ []) ∷ []
  pub late_mark : late.lists ≡ [] ∷ (record { mark = mark 1 1 10; since = 10 } ∷ []) ∷ []
  -- the mark that is pushed says less than the colour is worth
  pub unheard : before_push.lists ≡ [] ∷ (record { mark = mark 1 1 10; since = 12 } ∷ []) ∷ []
  -- on one core, batches of ten events and of one: the colours take turns
  pub batch_of_ten : drain_row (small 1 10 15 0) 25 (after_posts (small 1 10 15 0) (ten 0 ++ ten 2))
      ≡ (
        (map (λ p. Reg p.0 p.1 1) (ten 0 ++ ten 2) ++ Take (col 0) 0 10 ∷ Fin (col 0) 0 10
            ∷ Take (col 2) 0 10 ∷ Fin (col 2) 0 10 ∷ []) ∷ [],
        false,
        true,
      )
  pub batch_of_one : drain_row (small 1 1 15 0) 97 (after_posts (small 1 1 15 0) (ten 0 ++ ten 2))
      ≡ (
        (map (λ p. Reg p.0 p.1 1) (ten 0 ++ ten 2) ++ flat_map (λ c.
            Take (col c) 0 1 ∷ Fin (col c) 0 1 ∷ []) (flat_map (λ (n : ℕ).
            0 ∷ 2 ∷ []) (replicate 10 0))) ∷ [],
        false,
        true,
      )
  -- a pinned colour stays on its core, and a thief takes the other
  pub pinned_stays : drain_row (small 2 1 5 1) 3
      (after (small 2 1 5 1) ((col 0, event 0 0) ∷ (col 2, event 0 0) ∷ []) ((1, 4) ∷ []))
      ≡ (
        (Reg (col 0) (event 0 0) 2 ∷ Reg (col 2) (event 0 0) 2 ∷ Steal (col 2) 0 1 ∷ Take (col 0) 0
            1 ∷ Take (col 2) 1 1 ∷ Fin (col 0) 0 1 ∷ Fin (col 2) 1 1 ∷ []) ∷ [],
        false,
        true,
      )
