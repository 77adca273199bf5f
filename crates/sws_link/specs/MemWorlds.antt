-- What the worlds in memory hold and tell, and what stands after each call: it follows from the
-- links that are to come and the calls that are to fail alone.
use Rattle.std.specs.Prelude.{◌≡◌, ℕ, ◌+◌, min, Bool, true, false, if◌then◌else◌, List, [], ◌∷◌, length, map, Some}
use Rattle.sws_link.specs.declared.Opened.{Opened}
use Rattle.sws_link.specs.declared.Opened.TheVariants as opened
use Rattle.sws_link.specs.declared.Polled.{Polled}
use Rattle.sws_link.specs.declared.Polled.TheVariants as polled
use Rattle.sws_link.specs.declared.Accepted.{Accepted}
use Rattle.sws_link.specs.declared.Accepted.TheVariants as accepted
use Rattle.sws_link.specs.Calls.{next_fails, after_call}
use Rattle.sws_link.specs.LinkItems.{all_bytes}
use Rattle.sws_link.specs.MemLinks.{script_of, script_unless}
use Rattle.sws_link.specs.SureLink.{SureLinkState}
use Rattle.sws_link.specs.MemLink.{MemLinkState}
use Rattle.sws_link.specs.ScriptedBytes.{ScriptedBytesState}
use Rattle.sws_link.specs.Worlds.{Coming, WorldContents, first_ready}
use Rattle.sws_link.specs.Lobby.{LobbyState}
use Rattle.sws_link.specs.MemWorld.{MemWorldState}

-- all the links are to be given
abbrev pub initial_lobby : {L : Type 0} → List L → LobbyState L
initial_lobby links = record { links = links; total = length links; accepted = 0; port = 0 }

-- as many as are asked for, or as there are
abbrev pub lobby_after_open : {L : Type 0} → LobbyState L → ℕ → ℕ → LobbyState L
lobby_after_open lobby port total = record lobby {
  total = min total (length lobby.links);
  accepted = 0;
  port = port;
}

-- the next link was given
pub record GivesNext {L : Type 0} (before : LobbyState L) (link : L)
    (after : LobbyState L) : Type 0 where
  pub next : before.links ≡ link ∷ after.links
  pub becomes : after ≡ record before { links = after.links; accepted = before.accepted + 1 }

-- ---- links that are to come

-- nothing was taken or written, no call failed, the link was never waited for, and it isn't shut
pub record IsInitialMemLink (link : MemLinkState) : Type 0 where
  pub taken : link.bytes.input.taken ≡ []
  pub written : link.bytes.written ≡ []
  pub failed : link.calls.failed ≡ 0
  pub waits : link.waits ≡ 0
  pub not_shut : link.shut ≡ false

-- nothing was done with the link
pub record IsInitialSureLink (link : SureLinkState) : Type 0 where
  pub taken : link.bytes.input.taken ≡ []
  pub written : link.bytes.written ≡ []
  pub waits : link.waits ≡ 0
  pub not_shut : link.shut ≡ false

-- what is to come of a link: the bytes of its items, and its answers where no call is to fail
abbrev pub bytes_coming : List ℕ → ScriptedBytesState → Coming
bytes_coming failing bytes = record {
  input = all_bytes bytes.input.items;
  answers = script_unless failing (script_of bytes);
  says_all = true;
}

-- what is known of a link in memory before it is given
abbrev pub mem_coming : MemLinkState → Coming
mem_coming link = bytes_coming link.calls.failing link.bytes

-- what is known of a link in memory without faults before it is given
abbrev pub sure_coming : SureLinkState → Coming
sure_coming link = bytes_coming [] link.bytes

-- ---- worlds

-- there is no call
abbrev pub is_none : List ℕ → Bool
is_none [] = true
is_none (call ∷ calls) = false

-- what a world over a lobby tells
abbrev pub lobby_tells : {L : Type 0} → (L → Coming) → Bool → LobbyState L → WorldContents
lobby_tells coming scripted lobby = record {
  coming = Some (map coming lobby.links);
  total = lobby.total;
  accepted = lobby.accepted;
  port = lobby.port;
  scripted = scripted;
}

-- what a world in memory tells; it is scripted where no call is to fail
abbrev pub mem_world_tells : MemWorldState → WorldContents
mem_world_tells world = lobby_tells mem_coming (is_none world.calls.failing) world.lobby

-- what a world in memory without faults tells
abbrev pub sure_world_tells : LobbyState SureLinkState → WorldContents
sure_world_tells lobby = lobby_tells sure_coming true lobby

-- ---- calls of a world with calls that fail

-- what an opening answers: it fails where this call is to fail
abbrev pub opened_or_fails : MemWorldState → Opened
opened_or_fails world = if next_fails world.calls then opened.Failed else opened.Ready

-- a world in memory after it was opened, or failed to
abbrev pub mem_world_after_open : MemWorldState → ℕ → ℕ → MemWorldState
mem_world_after_open world port total = record {
  lobby = if next_fails world.calls then world.lobby else lobby_after_open world.lobby port total;
  calls = after_call world.calls;
}

-- what a poll answers: the first that waits, or that it fails where this call is to fail
abbrev pub ready_or_fails : MemWorldState → List ℕ → Polled
ready_or_fails world waiting = if next_fails world.calls then polled.Failed else first_ready waiting

-- the next link is given, or the call fails where it is to fail
abbrev pub FailsOrGivesBy : Bool → MemWorldState → Accepted MemLinkState → MemWorldState → Type 0
FailsOrGivesBy true before answer after = (answer ≡ accepted.Failed) × (after.lobby ≡ before.lobby)
FailsOrGivesBy false before answer after = (link : MemLinkState) × (answer ≡ accepted.Link link)
    × GivesNext before.lobby link after.lobby

-- the next link is given or the call fails where it is to fail, and the call is counted
pub record FailsOrGives (before : MemWorldState) (answer : Accepted MemLinkState)
    (after : MemWorldState) : Type 0 where
  pub gives : FailsOrGivesBy (next_fails before.calls) before answer after
  pub calls_are : after.calls ≡ after_call before.calls

-- the next link is given
abbrev pub Gives : LobbyState SureLinkState → Accepted SureLinkState
    → LobbyState SureLinkState → Type 0
Gives before answer after = (link : SureLinkState) × (answer ≡ accepted.Link link)
    × GivesNext before link after
