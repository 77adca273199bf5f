-- What a client has taken and was shown.
use Rattle.std.specs.Prelude.{◌≡◌, ◌⊎◌, ◌<◌, ℕ, List, ◌++◌, [], Option, Some, None, Bool, false, Contains, IfSome, length, ⊤}
use Rattle.sws_link.specs.Links.{LinkContents, input_of}
use Rattle.example_chat_room.specs.declared.end.End.{End}
use Rattle.example_chat_room.specs.declared.end.End.TheVariants as ends
use Rattle.example_chat_room.specs.Shown.{FitsLine}

-- a client: whether its link has come, and what that tells; what came and belongs to no line yet,
-- and what isn't written; and how its time has ended
pub record ClientView : Type 0 where
  pub has_come : Bool
  pub told : Option LinkContents
  pub inbox : List ℕ
  pub outbox : List ℕ
  pub end : Option End

-- what a link tells, where it has come
abbrev pub told_by : {L : Type 0} → (L → Option LinkContents) → Option L → Option LinkContents
told_by tells None = None
told_by tells (Some link) = tells link

-- more than 512 bytes come before the first that ends a line
pub record IsTooLong (bytes : List ℕ) : Type 0 where
  pub front : List ℕ
  pub back : List ℕ
  pub is : bytes ≡ front ++ back
  pub many : 512 < length front
  pub no_end : Contains front 10 → ⊥

-- What an end says of what was taken behind the last line and of what was shown and isn't written.
-- Who has left had no line to say any more, was written all that it was shown, and its link was
-- read to its end.
abbrev pub HasEnded : Option End → List ℕ → List ℕ → LinkContents → Type 0
HasEnded None rest unwritten told = ⊤
HasEnded (Some ends.Left) rest unwritten told =
    FitsLine rest × (unwritten ≡ []) × (told.left ≡ [])
HasEnded (Some ends.LongLine) rest unwritten told = IsTooLong rest
HasEnded (Some ends.Slow) rest unwritten told = 65536 < length unwritten
HasEnded (Some ends.Fault) rest unwritten told = ⊤
HasEnded (Some ends.Memory) rest unwritten told = ⊤

-- more than 64 KiB were on their way, or there was no memory
abbrev pub IsFull : End → List ℕ → Type 0
IsFull ends.Left bytes = ⊥
IsFull ends.LongLine bytes = ⊥
IsFull ends.Slow bytes = 65536 < length bytes
IsFull ends.Fault bytes = ⊥
IsFull ends.Memory bytes = ⊤

-- Of this input, what was taken is what was said and a rest; and what was written, with what isn't
-- yet, is what was shown. The rest and what isn't written are at hand as long as the client's time
-- hasn't ended.
pub record IsTold (input said shown inbox outbox : List ℕ) (end : Option End) (told : LinkContents)
    : Type 0 where
  pub rest : List ℕ
  pub unwritten : List ℕ
  pub input_is : input_of told ≡ input
  pub taken : told.taken ≡ said ++ rest
  pub written : told.written ++ unwritten ≡ shown
  pub inbox_is : end ≡ None → rest ≡ inbox
  pub outbox_is : end ≡ None → unwritten ≡ outbox
  pub ended : HasEnded end rest unwritten told

-- nothing was said or shown before the link has come
pub record IsFresh (said shown : List ℕ) (client : ClientView) : Type 0 where
  pub no_said : said ≡ []
  pub no_shown : shown ≡ []
  pub no_inbox : client.inbox ≡ []
  pub no_outbox : client.outbox ≡ []
  pub end : (client.end ≡ None) ⊎ (client.end ≡ Some ends.Fault)

-- A client over a link of this input, where it tells that, has said and was shown this.
pub record IsTalk (input said shown : List ℕ) (client : ClientView) : Type 0 where
  pub told : IfSome client.told (IsTold input said shown client.inbox client.outbox client.end)
  pub fresh : client.has_come ≡ false → IsFresh said shown client

-- what is so stays so, but that it has said this or was shown this
abbrev pub Keeps : ClientView → ClientView → Type 0
Keeps before after = (input said shown : List ℕ) → IsTalk input said shown before
    → IsTalk input said shown after

abbrev pub Says : List ℕ → ClientView → ClientView → Type 0
Says bytes before after = (input said shown : List ℕ) → IsTalk input said shown before
    → IsTalk input (said ++ bytes) shown after

abbrev pub Shows : List ℕ → ClientView → ClientView → Type 0
Shows bytes before after = (input said shown : List ℕ) → IsTalk input said shown before
    → IsTalk input said (shown ++ bytes) after

-- who was there is there, and whose time has ended doesn't go on
pub record GoesOn (before after : ClientView) : Type 0 where
  pub has_come : after.has_come ≡ before.has_come
  pub goes_on : after.end ≡ None → before.end ≡ None
