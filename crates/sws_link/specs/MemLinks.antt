-- What the links in memory hold and tell, and what stands after each call: it follows from the
-- items, the two bounds of writes and the calls that are to fail alone, but for want of memory.
use Rattle.std.specs.Prelude.{◌≡◌, ◌⊎◌, ℕ, zero, suc, Bool, true, false, if◌then◌else◌, IsTrue, List, [], ◌∷◌, ◌++◌, length, Option, Some, None}
use Rattle.sws_link.specs.declared.LinkRead.{LinkRead}
use Rattle.sws_link.specs.declared.LinkRead.TheVariants as read
use Rattle.sws_link.specs.declared.LinkWrite.{LinkWrite}
use Rattle.sws_link.specs.declared.LinkWrite.TheVariants as write
use Rattle.sws_link.specs.Scripts.{Script, Item, left_of_limit, within, read_of}
use Rattle.sws_link.specs.Links.{LinkContents, given_by, written_by}
use Rattle.sws_link.specs.LinkItems.{all_bytes}
use Rattle.sws_link.specs.Calls.{CallsState, count_up, next_fails}
use Rattle.sws_link.specs.ScriptedBytes.{ScriptedBytesState}
use Rattle.sws_link.specs.MemLink.{MemLinkState}
use Rattle.sws_link.specs.SureLink.{SureLinkState}

-- nothing was taken or written
abbrev pub initial_bytes : List Item → Option ℕ → Option ℕ → ScriptedBytesState
initial_bytes items step cut = record {
  input = record { taken = []; items = items };
  written = [];
  step = step;
  cut = cut;
}

-- ---- what is told

-- the answers to come, as they stand
abbrev pub script_of : ScriptedBytesState → Script
script_of bytes = record {
  items = bytes.input.items;
  step = bytes.step;
  cut = left_of_limit bytes.cut (length bytes.written);
}

-- no script has a step of nothing
abbrev pub script_by_step : Option ℕ → Script → Option Script
script_by_step None script = Some script
script_by_step (Some zero) script = None
script_by_step (Some (suc limit)) script = Some script

-- where no call is to fail, it answers as its script says
abbrev pub script_unless : List ℕ → Script → Option Script
script_unless [] script = script_by_step script.step script
script_unless (call ∷ failing) script = None

-- what scripted bytes tell, where these calls are to fail
abbrev pub bytes_tell : List ℕ → ScriptedBytesState → LinkContents
bytes_tell failing bytes = record {
  taken = bytes.input.taken;
  left = all_bytes bytes.input.items;
  written = bytes.written;
  to_come = script_unless failing (script_of bytes);
  says_all = true;
}

-- what a link in memory tells
abbrev pub mem_link_tells : MemLinkState → Option LinkContents
mem_link_tells link = Some (bytes_tell link.calls.failing link.bytes)

-- what a link in memory without faults tells
abbrev pub sure_link_tells : SureLinkState → Option LinkContents
sure_link_tells link = Some (bytes_tell [] link.bytes)

-- ---- calls

-- what was read is taken, and the items are those that are left
abbrev pub bytes_after_read : ScriptedBytesState → ℕ → ScriptedBytesState
bytes_after_read bytes room =
    let said = read_of room bytes.input.items in
    record bytes { input = record { taken = bytes.input.taken ++ said.bytes; items = said.items } }

-- a write fails where so many bytes were written as may be, and isn't ready
-- where a write takes nothing
abbrev pub write_answer : Option ℕ → Option ℕ → ℕ → LinkWrite
write_answer None (Some zero) length = write.Failed
write_answer (Some limit) (Some zero) length = write.Failed
write_answer None None length = write.Wrote length
write_answer (Some zero) None length = write.NotReady
write_answer (Some (suc limit)) None length = write.Wrote (within (Some (suc limit)) length)
write_answer None (Some (suc left)) length = write.Wrote (within (Some (suc left)) length)
write_answer (Some zero) (Some (suc left)) length = write.NotReady
write_answer (Some (suc limit)) (Some (suc left)) length =
    write.Wrote (within (Some (suc limit)) (within (Some (suc left)) length))

-- what a write may answer
abbrev pub MayAnswer : ScriptedBytesState → ℕ → LinkWrite → Type 0
MayAnswer bytes count answer = (answer ≡ write.Memory)
    ⊎ (answer ≡ write_answer bytes.step (left_of_limit bytes.cut (length bytes.written)) count)

-- what the answer says was written
abbrev pub bytes_after_write : ScriptedBytesState → LinkWrite → List ℕ → ScriptedBytesState
bytes_after_write bytes answer piece =
    record bytes { written = bytes.written ++ written_by answer piece }

-- ---- counts

-- the read failed
abbrev pub is_failed_read : LinkRead → Bool
is_failed_read (read.Took count) = false
is_failed_read read.End = false
is_failed_read read.NotReady = false
is_failed_read read.Failed = true

-- the write failed
abbrev pub is_failed_write : LinkWrite → Bool
is_failed_write (write.Wrote count) = false
is_failed_write write.NotReady = false
is_failed_write write.Failed = true
is_failed_write write.Memory = false

-- the link was not ready for the read
abbrev pub is_waiting_read : LinkRead → Bool
is_waiting_read (read.Took count) = false
is_waiting_read read.End = false
is_waiting_read read.NotReady = true
is_waiting_read read.Failed = false

-- the link was not ready for the write
abbrev pub is_waiting_write : LinkWrite → Bool
is_waiting_write (write.Wrote count) = false
is_waiting_write write.NotReady = true
is_waiting_write write.Failed = false
is_waiting_write write.Memory = false

-- one more call was made, and it may have failed
abbrev pub after_link_call : CallsState → Bool → CallsState
after_link_call calls failed = record {
  failing = calls.failing;
  made = count_up calls.made;
  failed = if failed then count_up calls.failed else calls.failed;
}

-- one more, where it wasn't ready
abbrev pub waits_after : ℕ → Bool → ℕ
waits_after waits waiting = if waiting then count_up waits else waits

-- ---- whole calls

-- a read that is to fail takes nothing, and another answers as the items say; either is counted
pub record FailsOrReads (before : MemLinkState) (room : ℕ) (answer : LinkRead) (into : List ℕ)
    (after : MemLinkState) : Type 0 where
  pub answer_is : answer
      ≡ (if next_fails before.calls then read.Failed else
      (read_of room before.bytes.input.items).answer)
  pub bytes_are : given_by answer into
      ≡ (if next_fails before.calls then [] else (read_of room before.bytes.input.items).bytes)
  pub bytes_become : after.bytes
      ≡ (if next_fails before.calls then before.bytes else bytes_after_read before.bytes room)
  pub calls_are : after.calls ≡ after_link_call before.calls (is_failed_read answer)
  pub waits_are : after.waits ≡ waits_after before.waits (is_waiting_read answer)
  pub shut_is : after.shut ≡ before.shut

-- a write that is to fail fails, and another answers as the bounds say, but for want of memory;
-- either is counted, and writes nothing but what it says
pub record FailsOrWrites (before : MemLinkState) (piece : List ℕ) (answer : LinkWrite)
    (after : MemLinkState) : Type 0 where
  pub to_fail : IsTrue (next_fails before.calls) → answer ≡ write.Failed
  pub else_by_bounds : next_fails before.calls ≡ false
      → MayAnswer before.bytes (length piece) answer
  pub bytes_become : after.bytes ≡ bytes_after_write before.bytes answer piece
  pub calls_are : after.calls ≡ after_link_call before.calls (is_failed_write answer)
  pub waits_are : after.waits ≡ waits_after before.waits (is_waiting_write answer)
  pub shut_is : after.shut ≡ before.shut

-- a read and a write of a link without faults answer as its items and its bound say, for
-- a read of this much room
pub record SureReads (before : SureLinkState) (room : ℕ) (answer : LinkRead) (into : List ℕ)
    (after : SureLinkState) : Type 0 where
  pub answer_is : answer ≡ (read_of room before.bytes.input.items).answer
  pub bytes_are : given_by answer into ≡ (read_of room before.bytes.input.items).bytes
  pub bytes_become : after.bytes ≡ bytes_after_read before.bytes room
  pub waits_are : after.waits ≡ waits_after before.waits (is_waiting_read answer)
  pub shut_is : after.shut ≡ before.shut

-- a write on a link without faults answers as its bound says, but for want of memory
pub record SureWrites (before : SureLinkState) (piece : List ℕ) (answer : LinkWrite)
    (after : SureLinkState) : Type 0 where
  pub by_bounds : MayAnswer before.bytes (length piece) answer
  pub bytes_become : after.bytes ≡ bytes_after_write before.bytes answer piece
  pub waits_are : after.waits ≡ waits_after before.waits (is_waiting_write answer)
  pub shut_is : after.shut ≡ before.shut
