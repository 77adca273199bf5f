-- What a socket carried, what its calls change in that, and what a link over it tells that keeps
-- bytes back. A socket that tells nothing has `None`, and goes on telling nothing.
use Rattle.std.specs.Prelude.{◌≡◌, ◌⊎◌, ℕ, ◌≤◌, Bool, true, false, List, [], ◌++◌, length, Option, Some, None, ⊤}
use Rattle.sws_link.specs.declared.LinkRead.{LinkRead}
use Rattle.sws_link.specs.declared.LinkRead.TheVariants as read
use Rattle.sws_link.specs.declared.LinkWrite.{LinkWrite}
use Rattle.sws_link.specs.declared.LinkWrite.TheVariants as write
use Rattle.sws_link.specs.Links.{LinkContents, given_by, written_by, EndsRead}
use Rattle.sws_net.specs.Invariant.{head_limit, kept_limit}

-- what was taken of what the peer sends and what is left of it, and what the socket took to be sent
pub record SocketContents : Type 0 where
  pub taken : List ℕ
  pub left : List ℕ
  pub sent : List ℕ

-- what was given moves from what is left to what was taken
pub record ReceivesTold (before : SocketContents) (now : Option SocketContents)
    (answer : LinkRead) (into : List ℕ) : Type 0 where
  pub rest : List ℕ
  pub left : before.left ≡ given_by answer into ++ rest
  pub is : now ≡ Some (record {
    taken = before.taken ++ given_by answer into;
    left = rest;
    sent = before.sent;
  })
  pub ends : EndsRead answer before.left

-- what a read takes of a socket, where the socket tells it
abbrev pub Receives : Option SocketContents → Option SocketContents → LinkRead → List ℕ → Type 0
Receives None now answer into = now ≡ None
Receives (Some before) now answer into = ReceivesTold before now answer into

-- these bytes were sent behind the others
abbrev pub sent_behind : SocketContents → List ℕ → SocketContents
sent_behind before bytes =
    record { taken = before.taken; left = before.left; sent = before.sent ++ bytes }

-- the socket took what its answer says, and nothing where it says no number
abbrev pub Sends : Option SocketContents → Option SocketContents → LinkWrite → List ℕ → Type 0
Sends None now answer bytes = now ≡ None
Sends (Some before) now answer bytes = now ≡ Some (sent_behind before (written_by answer bytes))

-- the socket took the last bytes, all of them
abbrev pub Finishes : Option SocketContents → Option SocketContents → List ℕ → Type 0
Finishes None now last = now ≡ None
Finishes (Some before) now last = now ≡ Some (sent_behind before last)

-- ---- a link that keeps bytes back

-- what it tells: what counts as written is what the socket took, followed by what is kept
abbrev pub link_tells : Option SocketContents → List ℕ → Option LinkContents
link_tells None kept = None
link_tells (Some socket) kept = Some (record {
  taken = socket.taken;
  left = socket.left;
  written = socket.sent ++ kept;
  to_come = None;
  says_all = true;
})

-- bytes came, or the end
abbrev pub IsReceived : LinkRead → Type 0
IsReceived (read.Took count) = ⊤
IsReceived read.End = ⊤
IsReceived read.NotReady = ⊥
IsReceived read.Failed = ⊥

-- a piece is kept as a whole: it isn't the rest of one, and is small and nothing was kept, or stands
-- behind what a link keeps that holds answers
pub record IsKeptWhole (kept : List ℕ) (in_piece holds : Bool) (count : ℕ) (piece now : List ℕ)
    : Type 0 where
  pub may : (holds ≡ true) ⊎ ((kept ≡ []) × (length piece ≤ head_limit))
  pub begins : in_piece ≡ false
  pub few : length now ≤ kept_limit
  pub whole : count ≡ length piece
  pub is : now ≡ kept ++ piece

-- what counts as written of a piece was kept, or nothing is kept any more
abbrev pub KeepsOrSends : List ℕ → Bool → Bool → LinkWrite → List ℕ → List ℕ → Type 0
KeepsOrSends kept in_piece holds (write.Wrote count) piece now =
    IsKeptWhole kept in_piece holds count piece now ⊎ (now ≡ [])
KeepsOrSends kept in_piece holds write.NotReady piece now = ⊤
KeepsOrSends kept in_piece holds write.Failed piece now = ⊤
KeepsOrSends kept in_piece holds write.Memory piece now = ⊤
