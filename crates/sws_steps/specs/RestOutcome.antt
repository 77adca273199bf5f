-- What a connection comes to that stands over a scripted link: what will be written of it yet, and
-- the end. Only clauses of loops cite this.
use Rattle.std.specs.Prelude.{ℕ, ◌-◌, Bool, true, false, ◌||◌, List, [], ◌++◌, Option, Some, None, ◌≡◌}
use Rattle.sws_link.specs.Scripts.{Script}
use Rattle.sws_link.specs.declared.Link.{Ghosts as LinkWords}
use Rattle.sws_link.specs.Links.{LinkContents}
use Rattle.sws_parts.specs.Parts.{unsent_bytes}
use Rattle.sws_steps.specs.Protocol.{Protocol, later_unless, texts_of, is_closed}
use Rattle.sws_steps.specs.ConnCore.{ConnCoreState}
use Rattle.sws_steps.specs.declared.End.{End}
use Rattle.sws_steps.specs.declared.Next.{Next}
use Rattle.sws_steps.specs.declared.Next.TheVariants as next
use Rattle.sws_steps.specs.Outcome.{Outcome, Input, at_end, empty_input, input_from, limit_input, cut_off, end_of, UnlessMemory}

-- only waits before a read count
abbrev pub waits_at : Next → ℕ → ℕ
waits_at next.Read waits = waits
waits_at next.Open waits = 0
waits_at next.Parse waits = 0
waits_at next.Look waits = 0
waits_at next.Write waits = 0
waits_at next.Wait waits = 0
waits_at next.Close waits = 0
waits_at next.Nothing waits = 0

-- what is to come of the input, by whether it has ended and how often the link was not ready
abbrev pub input_by : Bool → ℕ → Script → Input
input_by true waits script = empty_input at_end
input_by false waits script = input_from waits script.items

-- what was written, and then the rest
abbrev pub with_written : List ℕ → Outcome → Outcome
with_written written outcome = record { bytes = written ++ outcome.bytes; end = outcome.end }

module _ {Hall Answer : Type 0} (p : Protocol Hall Answer) where
  -- the input that is still to be taken: that of the items that are left, none where its end was
  -- read, and no more than the connection may still take
  abbrev pub input_to_come : ConnCoreState Hall → Script → Input
  input_to_come c script =
      limit_input (p.input_limit c.hall - c.read)
      (input_by c.input_ended (waits_at c.pending c.waits) script)

  -- what comes of the rest of the parts, and of what will be answered of the
  -- buffer and the input to come
  abbrev pub ahead : ConnCoreState Hall → Option ℕ → Input → Outcome
  ahead c cut input =
      let later = later_unless c.closes (p.answers (p.answer_limit c.hall - c.answered) c.hall
      (c.buffer ++ input.bytes)) in
      cut_off cut (unsent_bytes c.parts ++ texts_of p later)
      (end_of (c.closes || is_closed p later) input.stop)

  -- by the end, where it is known
  abbrev pub rest_outcome_by : Option End → ConnCoreState Hall → Script → Outcome
  rest_outcome_by (Some end) c script = record { bytes = []; end = end }
  rest_outcome_by None c script = ahead c script.cut (input_to_come c script)

  -- what will be written yet of a connection that stands so, and the end
  abbrev pub rest_outcome : ConnCoreState Hall → Script → Outcome
  rest_outcome c script = rest_outcome_by c.end c script

  -- with what was written it comes to this outcome
  abbrev pub HeadsByScript : Option Script → List ℕ → ConnCoreState Hall → Outcome → Type 0
  HeadsByScript None written c outcome = ⊥
  HeadsByScript (Some script) written c outcome =
      UnlessMemory c.end (with_written written (rest_outcome c script) ≡ outcome)

  -- the link tells its answers to come, with which the connection comes to this outcome
  abbrev pub HeadsFor : Option LinkContents → ConnCoreState Hall → Outcome → Type 0
  HeadsFor None c outcome = ⊥
  HeadsFor (Some tells) c outcome = HeadsByScript tells.to_come tells.written c outcome

  -- there is a link, which tells its answers to come, and with them the
  -- connection comes to this outcome
  abbrev pub HeadsForLink : {L : Type 0} → LinkWords L → Option L → ConnCoreState Hall → Outcome
      → Type 0
  HeadsForLink x None c outcome = ⊥
  HeadsForLink x (Some link) c outcome = HeadsFor (x.tells link) c outcome
