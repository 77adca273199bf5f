-- One colour of a history, all in one record.
use Rattle.std.specs.Prelude.{◌+◌, ℕ, List, [], ◌∷◌, ◌++◌, Option, Some}
use Rattle.mely_event.specs.declared.colour.Colour.{Colour}
use Rattle.mely_event.specs.declared.event.Event.{Event}
use Rattle.mely_history.specs.History.{registered_of, begun_of, ended_of, owner_of, last_take}
use Rattle.mely_history.specs.declared.setup.Setup.{Setup}
use Rattle.mely_history.specs.declared.entry.Entry.{Entry}
use Rattle.mely_history.specs.declared.entry.Entry.TheVariants.{Reg, Take, Fin, Steal}

-- all that a history says of one colour
pub record ColourAccount : Type 0 where
  pub registered : List Event
  pub begun : ℕ
  pub ended : ℕ
  pub owner : ℕ
  pub last : Option (ℕ × ℕ)

-- what the history says of the colour
abbrev pub account_of : Setup → List Entry → Colour → ColourAccount
account_of setup history c = record {
  registered = registered_of history c;
  begun = begun_of history c;
  ended = ended_of history c;
  owner = owner_of setup history c;
  last = last_take history c;
}

-- what it says after one more entry of the colour
abbrev pub next_account : ColourAccount → Entry → ColourAccount
next_account account (Reg colour event by) =
    record account { registered = account.registered ++ event ∷ [] }
next_account account (Take colour core count) = record account {
  begun = account.begun + count;
  last = Some (core, count);
}
next_account account (Fin colour core count) = record account { ended = account.ended + count }
next_account account (Steal colour from to) = record account { owner = to }
