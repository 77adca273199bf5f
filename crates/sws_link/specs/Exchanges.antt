-- Calls of a link, one after another, and what their answers count.
use Rattle.std.specs.Prelude.{◌≡◌, ℕ, ◌+◌, Bool, List, [], ◌∷◌, Option}
use Rattle.sws_link.specs.declared.LinkRead.{LinkRead}
use Rattle.sws_link.specs.declared.LinkRead.TheVariants as read
use Rattle.sws_link.specs.declared.LinkWrite.{LinkWrite}
use Rattle.sws_link.specs.declared.LinkWrite.TheVariants as write
use Rattle.sws_link.specs.Counts.{Count}
use Rattle.sws_link.specs.Links.{LinkContents, Reads, Writes, Shuts}

-- a read into a room of this size, which answered so and left this in the room; a write of a piece,
-- which answered so; or a shut
pub data LinkCall : Type 0 where
  read_call : ℕ → LinkRead → List ℕ → LinkCall
  write_call : List ℕ → LinkWrite → LinkCall
  shut_call : LinkCall

-- ---- what the answers count

-- how many bytes a read took
abbrev pub took : LinkRead → ℕ
took (read.Took count) = count
took read.End = 0
took read.NotReady = 0
took read.Failed = 0

-- how many bytes a write wrote
abbrev pub wrote : LinkWrite → ℕ
wrote (write.Wrote count) = count
wrote write.NotReady = 0
wrote write.Failed = 0
wrote write.Memory = 0

-- how many bytes the reads took
abbrev pub taken_in : List LinkCall → ℕ
taken_in [] = 0
taken_in (read_call room answer into ∷ calls) = took answer + taken_in calls
taken_in (write_call piece answer ∷ calls) = taken_in calls
taken_in (shut_call ∷ calls) = taken_in calls

-- how many bytes the writes wrote that answered with a number
abbrev pub written_in : List LinkCall → ℕ
written_in [] = 0
written_in (read_call room answer into ∷ calls) = written_in calls
written_in (write_call piece answer ∷ calls) = wrote answer + written_in calls
written_in (shut_call ∷ calls) = written_in calls

-- ---- the calls

module _ {L : Type 0} (tells : L → Option LinkContents) (is_shut : L → Bool)
    (faults waits : L → Count) where
  -- the call was made
  abbrev pub Makes : LinkCall → L → L → Type 0
  Makes (read_call room answer into) before after =
      Reads tells is_shut faults waits before room answer into after
  Makes (write_call piece answer) before after =
      Writes tells is_shut faults waits before piece answer after
  Makes shut_call before after = Shuts tells is_shut faults waits before after

  -- these calls were made, and no other
  unfoldable pub Exchanges : List LinkCall → L → L → Type 0
  Exchanges [] before after = after ≡ before
  Exchanges (call ∷ calls) before after = (between : L) × Makes call before between
      × Exchanges calls between after
