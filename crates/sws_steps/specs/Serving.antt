-- What holds of a link whose connection was run to its end, whatever it answered.
use Rattle.std.specs.Prelude.{◌≡◌, ℕ, ◌+◌, ◌≤◌, ◌⊎◌, true, IsTrue, ⊤, [], length, Option, Some, None}
use Rattle.sws_link.specs.Contents.{IsPrefix}
use Rattle.sws_link.specs.Counts.{Count}
use Rattle.sws_link.specs.declared.Link.{Ghosts as LinkWords}
use Rattle.sws_link.specs.Links.{LinkContents, input_of, reading, writing}
use Rattle.sws_link.specs.Scripts.{Script}
use Rattle.sws_steps.specs.Protocol.{Protocol, is_closed}
use Rattle.sws_steps.specs.Outcome.{outcome_of, UnlessMemory}
use Rattle.sws_steps.specs.declared.End.{End}
use Rattle.sws_steps.specs.declared.End.TheVariants.{Done, Idle, Fault, Memory}

-- a count is greater by so much at least, or it is full
abbrev pub RoseBy : ℕ → Count → Count → Type 0
RoseBy more before now = (before.number + more ≤ now.number) ⊎ IsTrue now.full

module _ {Hall Answer : Type 0} (p : Protocol Hall Answer) where
  -- the input has ended, as many bytes were taken as count, or an answer to them closes
  abbrev pub IsLast : Hall → LinkContents → Type 0
  IsLast hall tells = (tells.left ≡ []) ⊎ (length tells.taken ≡ p.input_limit hall)
      ⊎ (is_closed p (p.answers_to hall tells.taken) ≡ true)

  -- The whole input is the same, of which no more was taken than counts; what was written begins
  -- the responses to what was taken; and where all is done it is the responses to the whole
  -- input, and nothing more comes.
  pub record ServesToEnd (hall : Hall) (before now : LinkContents) (end : End) : Type 0 where
    pub input : input_of now ≡ input_of before
    pub few : length now.taken ≤ p.input_limit hall
    pub prefix : IsPrefix now.written (p.responses_of hall now.taken)
    pub whole : end ≡ Done → now.written ≡ p.responses_of hall (input_of before)
    pub last : end ≡ Done → IsLast hall now

  -- what a link was served, by what it tells before and after: one that tells nothing goes on so,
  -- and nothing is said of its bytes
  abbrev pub Serves : Hall → Option LinkContents → Option LinkContents → End → Type 0
  Serves hall None now end = now ≡ None
  Serves hall (Some before) now end = (told : LinkContents) × (now ≡ Some told)
      × ServesToEnd hall before told end

  -- what was written begins the responses to what was taken, where that is told
  abbrev pub BeginsResponses : Hall → Option LinkContents → Type 0
  BeginsResponses hall None = ⊤
  BeginsResponses hall (Some tells) = IsPrefix tells.written (p.responses_of hall tells.taken)

  -- a link that tells its answers to come ends with exactly its outcome
  abbrev pub EndsByScript : Hall → Option Script → Option LinkContents → End → Type 0
  EndsByScript hall None now end = ⊤
  EndsByScript hall (Some script) now end = UnlessMemory (Some end)
      ((tells : LinkContents) × (now ≡ Some tells)
      × (tells.written ≡ (outcome_of p hall script).bytes)
      × (end ≡ (outcome_of p hall script).end))

  -- where the link told its answers to come, what was written and the end are those of their
  -- outcome; of any other link nothing is said
  abbrev pub EndsAs : Hall → Option LinkContents → Option LinkContents → End → Type 0
  EndsAs hall None now end = ⊤
  EndsAs hall (Some tells) now end = EndsByScript hall tells.to_come now end

  -- what was written is the responses to what was taken, where that is told
  abbrev pub IsAnswered : Hall → Option LinkContents → Type 0
  IsAnswered hall None = ⊤
  IsAnswered hall (Some tells) = tells.written ≡ p.responses_of hall tells.taken

  -- What the link keeps of its first state, by the end. A fault is one of reading, and then all
  -- that was taken is answered, or one of writing.
  abbrev pub KeepsBy : {L : Type 0} → LinkWords L → Hall → L → L → End → Type 0
  KeepsBy x hall first now Done = x.since first None now
  KeepsBy x hall first now Idle = x.since first None now
  KeepsBy x hall first now Fault = (x.since first (Some reading) now
      × IsAnswered hall (x.tells now)) ⊎ x.since first (Some writing) now
  KeepsBy x hall first now Memory = x.since first None now
