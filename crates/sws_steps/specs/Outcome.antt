-- What a scripted connection ends with: the bytes that are written and the end,
-- in which no step occurs.
use Rattle.std.specs.Prelude.{ℕ, ◌+◌, nat_le, nat_lt, Bool, true, false, if◌then◌else◌, List, [], ◌∷◌, ◌++◌, length, take, Option, Some, None, ⊤}
use Rattle.sws_link.specs.Scripts.{Script, Item, piece, wait, fault}
use Rattle.sws_steps.specs.Protocol.{Protocol, texts_of, is_closed}
use Rattle.sws_steps.specs.declared.End.{End}
use Rattle.sws_steps.specs.declared.End.TheVariants.{Done, Idle, Fault, Memory}
use Rattle.sws_steps.specs.Step.{wait_limit}

-- why no more input comes
pub data Stop : Type 0 where
  at_end at_limit at_fault at_pause : Stop

-- the bytes before a stop
pub record Input : Type 0 where
  pub bytes : List ℕ
  pub stop : Stop

-- an input with these bytes in front
abbrev pub prepend_bytes : List ℕ → Input → Input
prepend_bytes bytes input = record { bytes = bytes ++ input.bytes; stop = input.stop }

-- an input without bytes, which stops so
abbrev pub empty_input : Stop → Input
empty_input stop = record { bytes = []; stop = stop }

-- the input of the items, where the link was not ready so often in succession: 30 times stop it
abbrev pub input_from : ℕ → List Item → Input
input_from waits [] = empty_input at_end
input_from waits (piece [] ∷ items) = input_from waits items
input_from waits (piece (byte ∷ bytes) ∷ items) = prepend_bytes (byte ∷ bytes) (input_from 0 items)
input_from waits (wait count ∷ items) =
    if nat_le wait_limit (waits + count) then empty_input at_pause
    else input_from (waits + count) items
input_from waits (fault ∷ items) = empty_input at_fault

-- no more than so many bytes: the last of these stops it before what follows
abbrev pub limit_input : ℕ → Input → Input
limit_input limit input =
    if nat_le limit (length input.bytes) then record {
      bytes = take limit input.bytes;
      stop = at_limit;
    } else input

-- the bytes that are written, and the end
pub record Outcome : Type 0 where
  pub bytes : List ℕ
  pub end : End

-- the end of a connection by whether an answer closed it, and else by how its input stops
abbrev pub end_of : Bool → Stop → End
end_of true stop = Done
end_of false at_end = Done
end_of false at_limit = Done
end_of false at_fault = Fault
end_of false at_pause = Idle

-- all is written, or as much as may be
abbrev pub cut_off : Option ℕ → List ℕ → End → Outcome
cut_off None bytes end = record { bytes = bytes; end = end }
cut_off (Some limit) bytes end =
    if nat_lt limit (length bytes) then record {
      bytes = take limit bytes;
      end = Fault;
    } else record { bytes = bytes; end = end }

module _ {Hall Answer : Type 0} (p : Protocol Hall Answer) where
  -- the outcome by the input and the answers to it
  abbrev pub outcome_by : Option ℕ → Input → List Answer → Outcome
  outcome_by cut input given =
      cut_off cut (texts_of p given) (end_of (is_closed p given) input.stop)

  -- the input of a script, as far as the hall lets it count
  abbrev pub scripted_input : Hall → Script → Input
  scripted_input hall script = limit_input (p.input_limit hall) (input_from 0 script.items)

  -- the outcome of a scripted connection
  abbrev pub outcome_of : Hall → Script → Outcome
  outcome_of hall script =
      outcome_by script.cut (scripted_input hall script)
      (p.answers_to hall (scripted_input hall script).bytes)

-- a fact, unless memory ran out
abbrev pub UnlessMemory : Option End → Type 0 → Type 0
UnlessMemory None Fact = Fact
UnlessMemory (Some Done) Fact = Fact
UnlessMemory (Some Idle) Fact = Fact
UnlessMemory (Some Fault) Fact = Fact
UnlessMemory (Some Memory) Fact = ⊤
