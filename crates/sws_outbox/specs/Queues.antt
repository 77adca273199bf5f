-- What becomes of lines that are to wait for an output.
use Rattle.std.specs.Prelude.{◌≡◌, ℕ, ◌+◌, ◌≤◌, Bool, true, false, List, ◌++◌, length, min}
use Rattle.sws_link.specs.Counts.{full_count}
use Rattle.sws_outbox.specs.declared.outbox.Queue.{Queue}

-- so many lines were dropped and counted, and what waits is as before
pub record Loses (before : Queue) (lines : ℕ) (now : Queue) : Type 0 where
  pub same : now.bytes.items ≡ before.bytes.items
  pub most : now.most ≡ before.most
  pub counted : now.dropped ≡ min (before.dropped + lines) full_count

-- the text waits behind the others, and there was room for all of it
pub record Waits (before : Queue) (text : List ℕ) (now : Queue) : Type 0 where
  pub behind : now.bytes.items ≡ before.bytes.items ++ text
  pub room : length before.bytes.items + length text ≤ before.most
  pub most : now.most ≡ before.most
  pub counted : now.dropped ≡ before.dropped

-- a text of so many lines waits, or all of it was dropped and counted
abbrev pub Pushes : Queue → List ℕ → ℕ → Bool → Queue → Type 0
Pushes before text lines true now = Waits before text now
Pushes before text lines false now = Loses before lines now
