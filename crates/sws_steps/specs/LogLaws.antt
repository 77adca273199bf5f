-- Laws of the log of each connection: more bytes bring more lines behind the first ones, and the
-- steps of a scripted connection are those of its path.
use Rattle.std.specs.Prelude.{if◌then◌else◌}
use Rattle.std.proofs.Common.{◌≡◌, ℕ, ◌+◌, Bool, true, false, List, [], ◌∷◌, ◌++◌, length, map, take, refl, sym, ap, ◌∙◌, arith}
use Rattle.sws_link.specs.Contents.{IsPrefix}
use Rattle.sws_link.specs.Scripts.{Script}
use Rattle.sws_log.specs.declared.line.LogLine.{LogLine}
use Rattle.sws_steps.specs.Protocol.{Protocol, IsOrderly}
use Rattle.sws_steps.specs.Sound.{core_before_open}
use Rattle.sws_steps.specs.declared.Handler.{Handler}
use Rattle.sws_steps.specs.Path.{Scripted, scripted_step, path_of}
use Rattle.sws_steps.specs.Logs.{line_of, log_from, log_of, IsLogPrefix, Step, steps_along, steps_of}
use Rattle.sws_steps.specs.TalkLaws.{Begins, answers-begin, take-append}

module _ {Hall Answer : Type 0} (p : Protocol Hall Answer) where
  -- ---- the lines

  -- answers are numbered on behind the first ones
  pub log-append : (conn turn : ℕ) (front behind : List Answer)
      → log_from p conn turn (front ++ behind)
      ≡ log_from p conn turn front ++ log_from p conn (turn + length front) behind
  unfolding log_from
  log-append conn turn [] behind =
      let same : turn ≡ turn + 0 = omega arith in ap (λ n. log_from p conn n behind) same
  log-append conn turn (answer ∷ front) behind =
      let same : turn + 1 + length front ≡ turn + length (answer ∷ front) = omega arith in
      ap (λ lines. line_of conn turn (p.note answer) ∷ lines)
      (log-append conn (turn + 1) front behind
      ∙ ap (λ n. log_from p conn (turn + 1) front ++ log_from p conn n behind) same)

  -- ---- the steps

  -- the handlers of the steps along some events are these
  pub steps_along-handlers : (c : Scripted Hall) (path : List Handler)
      → map (λ (step : Step). step.handler) (steps_along p c path) ≡ path
  unfolding steps_along
  steps_along-handlers c [] = refl
  steps_along-handlers c (event ∷ later) =
      ap (λ events. event ∷ events) (steps_along-handlers (scripted_step p c) later)

  -- the handlers of the steps of a scripted connection are its path
  pub steps_of-handlers : (hall : Hall) (script : Script)
      → map (λ (step : Step). step.handler) (steps_of p hall script) ≡ path_of p hall script
  steps_of-handlers hall script =
      steps_along-handlers (record { standing = core_before_open hall; script = script })
      (path_of p hall script)

module _ {Hall Answer : Type 0} (p : Protocol Hall Answer) (orderly : IsOrderly p) where
  -- ---- more bytes

  -- the log of a front of some bytes is a front of their log
  pub log-begins : (hall : Hall) (conn : ℕ) (front bytes : List ℕ) → IsPrefix front bytes
      → IsLogPrefix (log_of p hall conn front) (log_of p hall conn bytes)
  unfolding Begins
  log-begins hall conn front bytes (more, is) = by_logs p.logs
    where
      limited : List ℕ → List Answer
      limited b = p.answers (p.answer_limit hall) hall b

      counted : (later : List ℕ)
          × (take (p.input_limit hall) (front ++ more) ≡ take (p.input_limit hall) front ++ later)
      counted = take-append (p.input_limit hall) front more

      begins : Begins (limited (take (p.input_limit hall) front))
          (limited (take (p.input_limit hall) front ++ counted.0))
      begins = answers-begin p orderly (p.answer_limit hall) hall (take (p.input_limit hall) front) counted.0

      answers : p.answers_to hall bytes ≡ p.answers_to hall front ++ begins.0
      answers =
          orderly.all hall bytes ∙ ap (λ b. limited (take (p.input_limit hall) b)) is
          ∙ ap limited counted.1 ∙ begins.1
          ∙ ap (λ first. first ++ begins.0) (sym (orderly.all hall front))

      lines : Bool → List ℕ → List LogLine
      lines logs b = if logs then log_from p conn 1 (p.answers_to hall b) else []

      by_logs : (logs : Bool) → IsLogPrefix (lines logs front) (lines logs bytes)
      by_logs true = (
        log_from p conn (1 + length (p.answers_to hall front)) begins.0,
        ap (log_from p conn 1) answers ∙ log-append p conn 1 (p.answers_to hall front) begins.0,
      )
      by_logs false = ([], refl)
