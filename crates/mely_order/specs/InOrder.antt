-- That a stream is in order: over a weave, and over the parts that it is taken apart into.
use Rattle.std.specs.Prelude.{◌≡◌, ◌≢◌, ◌+◌, ℕ, true, List, [], ◌++◌, Some, slice_get, length}
use Rattle.std.specs.List.{range_with_len}
use Rattle.mely_event.specs.declared.colour.Colour.{Colour}
use Rattle.mely_weave.specs.Weave.{WeaveState}
use Rattle.mely_tally.specs.Tallies.{Carried}
use Rattle.mely_order.specs.Rising.{Rises}
use Rattle.mely_order.specs.Seen.{Put, seen, lost_in}
use Rattle.mely_order.specs.Stream.{Stream, numbers_of, numbers_put}

-- what was received, what is still in the receiver's line, and what the sender's turn has left to
-- register rise, one after the other, up to the last number that was sent; where the numbers have
-- no gaps, these and what was refused for memory are as many as were sent; nothing that another
-- colour's turn has left to register is of the stream; and each state is sound
pub record InOrder {S P : Type 0} (stream : Stream S P) (weave : WeaveState S P) : Type 0 where
  pub receiver : S
  pub receiver_is : (seen stream.receiver weave).state ≡ Some receiver
  pub sender : S
  pub sender_is : (seen stream.sender weave).state ≡ Some sender
  pub rises : Rises 0 (stream.received receiver
      ++ numbers_of stream (seen stream.receiver weave).line
      ++ numbers_put stream (seen stream.sender weave).puts) (stream.sent sender)
  pub counted : stream.is_gapless ≡ true → length (stream.received receiver)
      + length (numbers_of stream (seen stream.receiver weave).line)
      + length (numbers_put stream (seen stream.sender weave).puts)
      + length (numbers_put stream (lost_in weave)) ≡ stream.sent sender
  pub quiet : (c : Colour) → c.0 ≢ stream.sender.0 → numbers_put stream (seen c weave).puts ≡ []
  pub sound : (c : Colour) (state : S) → (seen c weave).state ≡ Some state
      → stream.is_sound state ≡ true

-- the states at first: what was received before rises up to what was sent before, and is as much
-- where the numbers have no gaps; and each is sound
pub record BeginsInOrder {S P : Type 0} (stream : Stream S P) (states : List S) : Type 0 where
  pub receiver : S
  pub receiver_is : slice_get states stream.receiver.0 ≡ Some receiver
  pub sender : S
  pub sender_is : slice_get states stream.sender.0 ≡ Some sender
  pub rises : Rises 0 (stream.received receiver) (stream.sent sender)
  pub counted : stream.is_gapless ≡ true → length (stream.received receiver)
      ≡ stream.sent sender
  pub sound : (i : ℕ) (state : S) → slice_get states i ≡ Some state
      → stream.is_sound state ≡ true

-- the states and the events that are queued, by colour, and what was refused for memory: what was
-- received rises, with what is still queued for the receiver behind it, up to the last number that
-- was sent; and where the numbers have no gaps, and nothing of the stream is queued or was refused,
-- what was received is all that was sent
pub record EndsInOrder {S P : Type 0} (stream : Stream S P) (states : List S)
    (waits : List (List (Carried P))) (refused : List (Put P)) : Type 0 where
  pub received : (receiver sender : S) → slice_get states stream.receiver.0 ≡ Some receiver
      → slice_get states stream.sender.0 ≡ Some sender
      → Rises 0 (stream.received receiver) (stream.sent sender)
  pub queued : (receiver sender : S) (events : List (Carried P))
      → slice_get states stream.receiver.0 ≡ Some receiver
      → slice_get states stream.sender.0 ≡ Some sender
      → slice_get waits stream.receiver.0 ≡ Some events
      → Rises 0 (stream.received receiver ++ numbers_of stream events) (stream.sent sender)
  pub counted : stream.is_gapless ≡ true → (receiver sender : S) (events : List (Carried P))
      → slice_get states stream.receiver.0 ≡ Some receiver
      → slice_get states stream.sender.0 ≡ Some sender
      → slice_get waits stream.receiver.0 ≡ Some events
      → length (stream.received receiver) + length (numbers_of stream events)
      + length (numbers_put stream refused) ≡ stream.sent sender
  pub whole : stream.is_gapless ≡ true → (receiver sender : S) (events : List (Carried P))
      → slice_get states stream.receiver.0 ≡ Some receiver
      → slice_get states stream.sender.0 ≡ Some sender
      → slice_get waits stream.receiver.0 ≡ Some events
      → numbers_of stream events ≡ [] → numbers_put stream refused ≡ []
      → stream.received receiver ≡ range_with_len 1 (stream.sent sender)
