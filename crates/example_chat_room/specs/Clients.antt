-- A client as contracts see it, and what its functions do.
use Rattle.std.specs.Prelude.{◌++◌, ◌∷◌, [], Option, Some, None, false, is_some, ⊤}
use Rattle.sws_link.specs.declared.Link.{Ghosts as LinkWords}
use Rattle.example_chat_room.specs.declared.client.Client.{Client}
use Rattle.example_chat_room.specs.declared.client.Turn.{Turn}
use Rattle.example_chat_room.specs.declared.client.Turn.TheVariants as turn
use Rattle.example_chat_room.specs.Shown.{FitsLine}
use Rattle.example_chat_room.specs.Talks.{ClientView, Keeps, Says, told_by}

-- a client, as contracts see it
abbrev pub shown_client : {L : Type 0} {l : LinkWords L} → Client L l → ClientView
shown_client {l = l} client = record {
  has_come = is_some client.link;
  told = told_by l.tells client.link;
  inbox = client.inbox.bytes.items;
  outbox = client.outbox.bytes.items;
  end = client.end;
}

-- a client that is still to come
abbrev pub to_come : ClientView
to_come = record { has_come = false; told = None; inbox = []; outbox = []; end = None }

-- what a turn does: a line is said that fits one, or nothing
abbrev pub Goes : Turn → ClientView → ClientView → Type 0
Goes (turn.Says text) before after = Says (text.items ++ 10 ∷ []) before after
Goes turn.Waits before after = Keeps before after
Goes turn.Gone before after = Keeps before after

abbrev pub IsLine : Turn → Type 0
IsLine (turn.Says text) = FitsLine text.items
IsLine turn.Waits = ⊤
IsLine turn.Gone = ⊤

-- the same of a step, which may have no turn
abbrev pub StepGoes : Option Turn → ClientView → ClientView → Type 0
StepGoes None before after = Keeps before after
StepGoes (Some turn) before after = Goes turn before after

abbrev pub IsStepLine : Option Turn → Type 0
IsStepLine None = ⊤
IsStepLine (Some turn) = IsLine turn
