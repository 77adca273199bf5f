-- What a contract sees of a connection.
use Rattle.std.specs.Prelude.{ℕ, ◌==◌, Bool, true, false, nat_lt, List, length, Option, Some, None}
use Rattle.sws_parts.specs.Parts.{PartsState, unsent_bytes}
use Rattle.sws_steps.specs.declared.note.Note.{Note}
use Rattle.sws_steps.specs.declared.End.{End}
use Rattle.sws_steps.specs.declared.Next.{Next}
use Rattle.sws_steps.specs.declared.Next.TheVariants as next

-- all but the link
pub record ConnCoreState (Hall : Type 0) : Type 0 where
  -- what it answers out of
  pub hall : Hall
  -- the step that comes next, which is never `Wait`
  pub pending : Next
  -- what was taken and not yet answered, and whether the input has ended
  pub buffer : List ℕ
  pub input_ended : Bool
  -- how often in succession the link was not ready
  pub waits : ℕ
  -- what is left of the answer that is written, whether it closes, and what a log says of it; and
  -- how many requests were answered
  pub parts : PartsState
  pub closes : Bool
  pub note : Note
  pub answered : ℕ
  pub end : Option End
  -- how many bytes were taken and written
  pub read : ℕ
  pub written : ℕ

-- nothing is left of an answer
abbrev pub is_sent : PartsState → Bool
is_sent parts = length (unsent_bytes parts) == 0

-- the step before was not ready, and is done again
abbrev pub is_waiting_by : Option End → ℕ → Bool
is_waiting_by None waits = nat_lt 0 waits
is_waiting_by (Some end) waits = false

-- the pending step was tried and the link was not ready, and the connection goes on
abbrev pub is_waiting : {Hall : Type 0} → ConnCoreState Hall → Bool
is_waiting c = is_waiting_by c.end c.waits

-- what a step answers that leaves this
abbrev pub reported_by : Bool → Next → Next
reported_by true pending = next.Wait
reported_by false pending = pending

-- what a step answers that leaves this connection: that it waits where the link wasn't ready and
-- the end isn't known, and else what is pending
abbrev pub reported_step : {Hall : Type 0} → ConnCoreState Hall → Next
reported_step c = reported_by (is_waiting c) c.pending

-- the end, which is told once the link is shut
abbrev pub end_at : Next → Option End → Option End
end_at next.Nothing end = end
end_at next.Open end = None
end_at next.Read end = None
end_at next.Parse end = None
end_at next.Look end = None
end_at next.Write end = None
end_at next.Wait end = None
end_at next.Close end = None

-- the end of a connection, once its link is shut
abbrev pub told_end : {Hall : Type 0} → ConnCoreState Hall → Option End
told_end c = end_at c.pending c.end

-- a connection
pub record ConnState (Hall L : Type 0) : Type 0 where
  pub standing : ConnCoreState Hall
  pub link : Option L
