-- What a run goes by: the rules of a setup, and what they make of a colour and its history.
use Rattle.std.specs.Prelude.{◌≡◌, ℕ, ◌%◌, List, unwrap_or, fold, sum_by}
use Rattle.mely_event.specs.HandlerTable.{rows_of, weight_of}
use Rattle.mely_event.specs.declared.colour.Colour.{Colour}
use Rattle.mely_event.specs.declared.mark.Mark.{Mark}
use Rattle.mely_history.specs.declared.shape.Shape.{Shape}
use Rattle.mely_history.specs.declared.setup.Setup.{Setup}
use Rattle.mely_history.specs.declared.entry.Entry.{Entry}
use Rattle.mely_history.specs.Setup.{shape_of, handlers_of, pinned_of}
use Rattle.mely_history.specs.Entries.{thief_on}
use Rattle.mely_history.specs.History.{begun_of, queued_of, owner_of, worth_of}

-- the numbers of a setup, the time and the penalty of each handler, and below which number
-- colours are never stolen
pub record Rules : Type 0 where
  pub shape : Shape
  pub rows : List (ℕ × ℕ)
  pub pinned : ℕ

-- the rules that a setup says; a setup has more in it than it says, so that only rules are the same
-- wherever they say the same
abbrev pub rules_of : Setup → Rules
rules_of setup = record {
  shape = shape_of setup;
  rows = rows_of (handlers_of setup);
  pinned = pinned_of setup;
}

module _ (rules : Rules) where
  -- the shard of a colour
  abbrev pub shard_by : Colour → ℕ
  shard_by c = c.0 % rules.shape.shards

  -- the owner of a colour by a history: the core that stole it last; where none did,
  -- the core that it began on
  abbrev pub owner_by : List Entry → Colour → ℕ
  owner_by history c =
      fold (λ core entry. unwrap_or (thief_on c entry) core) (c.0 % rules.shape.cores) history

  -- its time left: the weights of what waits of it
  abbrev pub worth_by : List Entry → Colour → ℕ
  worth_by history c = sum_by (λ event. weight_of rules.rows event.handler) (queued_of history c)

  -- its mark
  abbrev pub mark_by : List Entry → Colour → Mark
  mark_by history c = record {
    colour = c;
    started = begun_of history c;
    worth = worth_by history c;
  }

-- owner and worth by the rules of a setup are those that a history has for the setup
pub record IsRuledBy (setup : Setup) : Type 0 where
  pub owner : (history : List Entry) (c : Colour) → owner_by (rules_of setup) history c
      ≡ owner_of setup history c
  pub worth : (history : List Entry) (c : Colour) → worth_by (rules_of setup) history c
      ≡ worth_of setup history c
