-- A connection as contracts see it, and what its functions do.
use Rattle.std.specs.Prelude.{◌≡◌, ◌⊎◌, ℕ, List, [], ◌∷◌, ◌++◌, Option, Some, None, Bool, true, false, IfSome, is_some, ⊤}
use Rattle.sws_link.specs.Links.{LinkContents}
use Rattle.sws_link.specs.declared.Link.{Ghosts as LinkWords}
use Rattle.mely_net.specs.declared.client.Client.{Client}
use Rattle.mely_net.specs.declared.client.Turn.{Turn}
use Rattle.mely_net.specs.declared.client.Turn.TheVariants.{Asks, Waits, GoesOn, Rests}
use Rattle.mely_net.specs.declared.end.End.{End}
use Rattle.mely_net.specs.declared.end.End.TheVariants as ends
use Rattle.mely_net.specs.Talks.{ClientView, told_by}

-- a connection, as contracts see it
abbrev pub shown_client : {L Q P : Type 0} {l : LinkWords L} → Client L Q P l → ClientView Q P
shown_client {l = l} client = record {
  has_come = is_some client.link;
  told = told_by l.tells client.link;
  inbox = client.inbox;
  outbox = client.outbox;
  asked = client.asked;
  several = client.several;
  is_last = client.is_last;
  end = client.end;
}

-- a connection that is still to come
abbrev pub to_come : {Q P : Type 0} → ClientView Q P
to_come = record {
  has_come = false;
  told = None;
  inbox = [];
  outbox = [];
  asked = None;
  several = None;
  is_last = false;
  end = None;
}

-- what a turn asks
abbrev pub asks_of : {Q : Type 0} → Turn Q → List (ℕ × Q)
asks_of (Asks cell request) = (cell, request) ∷ []
asks_of Waits = []
asks_of GoesOn = []
asks_of Rests = []

abbrev pub asks_of_step : {Q : Type 0} → Option (Turn Q) → List (ℕ × Q)
asks_of_step None = []
asks_of_step (Some turn) = asks_of turn

-- a connection that ends stays as it is, but for that
abbrev pub ended_by : End → Option End → Option End
ended_by end None = Some end
ended_by end (Some before) = Some before

abbrev pub after_leaving : {Q P : Type 0} → End → ClientView Q P → ClientView Q P
after_leaving end client = record client { end = ended_by end client.end }

-- a link that comes tells this; a second one isn't taken, nor one that comes too late
abbrev pub opened_by : {Q P : Type 0} → Option LinkContents → ClientView Q P → Bool → Option End
    → ClientView Q P
opened_by told client false None = record client { has_come = true; told = told }
opened_by told client false (Some end) = client
opened_by told client true end = client

abbrev pub after_opening : {Q P : Type 0} → Option LinkContents → ClientView Q P
    → ClientView Q P
after_opening told client = opened_by told client client.has_come client.end

-- the same cell is asked, and the connection hasn't gone on after its end
pub record IsSame {Q P : Type 0} (before after : ClientView Q P) : Type 0 where
  pub has_come : after.has_come ≡ before.has_come
  pub asked : after.asked ≡ before.asked
  pub several : after.several ≡ before.several
  pub is_last : after.is_last ≡ before.is_last
  pub goes_on : after.end ≡ None → before.end ≡ None
  pub strays : after.end ≡ Some ends.Astray → before.end ≡ Some ends.Astray
  pub done : after.end ≡ Some ends.Done → before.end ≡ Some ends.Done

-- an end of a connection that failed
abbrev pub IsFailure : Option End → Type 0
IsFailure None = ⊥
IsFailure (Some ends.Left) = ⊥
IsFailure (Some ends.Done) = ⊥
IsFailure (Some ends.Fault) = ⊤
IsFailure (Some ends.Memory) = ⊤
IsFailure (Some ends.Astray) = ⊥

-- these bytes are put on their way
pub record Says {Q P : Type 0} (shown : List ℕ) (before after : ClientView Q P) : Type 0 where
  pub same : IsSame before after
  pub told : after.told ≡ before.told
  pub inbox : after.inbox ≡ before.inbox
  pub outbox : after.end ≡ None → after.outbox ≡ before.outbox ++ shown
  pub end : (after.end ≡ before.end) ⊎ ((before.end ≡ None) × IsFailure after.end)

-- these bytes were written
abbrev pub ToldWrote : List ℕ → Option LinkContents → Option LinkContents → Type 0
ToldWrote gone None now = now ≡ None
ToldWrote gone (Some before) now = (after : LinkContents) × (now ≡ Some after)
    × (after.taken ≡ before.taken) × (after.written ≡ before.written ++ gone)

-- some of what is on its way was written
pub record Writes {Q P : Type 0} (before after : ClientView Q P) : Type 0 where
  pub same : IsSame before after
  pub gone : List ℕ
  pub left : List ℕ
  pub all : before.outbox ≡ gone ++ left
  pub told : ToldWrote gone before.told after.told
  pub inbox : after.inbox ≡ before.inbox
  pub outbox : after.end ≡ None → after.outbox ≡ left
  pub end : (after.end ≡ before.end) ⊎ IsFailure after.end

-- these bytes were taken
abbrev pub ToldRead : List ℕ → Option LinkContents → Option LinkContents → Type 0
ToldRead came None now = now ≡ None
ToldRead came (Some before) now = (after : LinkContents) × (now ≡ Some after)
    × (after.taken ≡ before.taken ++ came) × (after.written ≡ before.written)

-- some bytes came, or the end of all
pub record Reads {Q P : Type 0} (before after : ClientView Q P) : Type 0 where
  pub same : IsSame before after
  pub came : List ℕ
  pub told : ToldRead came before.told after.told
  pub inbox : after.end ≡ None → after.inbox ≡ before.inbox ++ came
  pub outbox : after.outbox ≡ before.outbox
  pub end : (after.end ≡ before.end) ⊎ (IsFailure after.end ⊎ (after.end ≡ Some ends.Left))
  pub all : after.end ≡ Some ends.Left
      → (came ≡ []) × IfSome after.told (λ told. told.left ≡ [])

-- all of what is on its way is written, and where it was to end then it has ended
pub record Finishes {Q P : Type 0} (before after : ClientView Q P) : Type 0 where
  pub between : ClientView Q P
  pub writes : Writes before between
  pub ends : (after ≡ between) ⊎ ((after ≡ after_leaving ends.Done between)
      × (between.is_last ≡ true) × (between.end ≡ None → between.outbox ≡ []))
