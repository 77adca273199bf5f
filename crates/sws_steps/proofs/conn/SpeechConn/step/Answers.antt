use Rattle.std.proofs.Common.{◌≡◌, ◌+◌, Some, sym, ap, ◌∙◌, subst}
use Rattle.sws_steps.specs.ConnCoreFields.{state_of}
use Rattle.sws_steps.specs.Path.{FollowsScript, TakesEvent}
use Rattle.sws_steps.specs.Logs.{bit, gives_line, lines_given}
use Rattle.sws_steps.specs.Talks.{HasNoStep}
use Rattle.sws_steps.specs.Told.{TalkState, IsSoundTelling}
use Rattle.sws_steps.proofs.LentLemmas.{sound-lent, view-lent}
use Rattle.sws_steps.proofs.Inputs.ServedLemmas.{begins_responses}
use Rattle.sws_steps.proofs.Steps.SoundLemmas.{step_sound}
use Rattle.sws_steps.proofs.Runs.ScriptedPathLemmas.{step_follows}
use Rattle.sws_steps.proofs.Runs.PathLemmas.{takes-event, end-stays}
use Rattle.sws_steps.proofs.Logs.LineLemmas.{lines-step}
use Rattle.sws_steps.proofs.Logs.ToldLemmas.{step-telling}
use Rattle.sws_steps.proofs.Logs.TellingLemmas.{steps-nothing}
use Rattle.sws_steps.proofs.conn.SpeechConn.step.Given.{Over}
use Rattle.sws_steps.proofs.conn.SpeechConn.step.Goals.{After-next_step}
use Rattle.sws_steps.proofs.conn.SpeechConn.step.Goals as goal

-- the connection before the step, by the core that its box lends, and after it
abbrev before : (g : Over) (c : After-next_step g) → TalkState g.row.S-Contents.Denot g.row.L.Denot
before g c = record { conn = record { standing = state_of g.S.Speech c.deref_mut.result.now; link = c.self.inside.link }; told = c.self.inside.told }

abbrev after : (g : Over) (c : After-next_step g) → TalkState g.row.S-Contents.Denot g.row.L.Denot
after g c = record { conn = record { standing = state_of g.S.Speech c.step_over-self-inside.new.core; link = c.step_over-self-inside.new.link }; told = c.step_over-self-inside.result }

is_before : (g : Over) (c : After-next_step g) → before g c ≡ c.args.self.now
is_before g c = view-lent g.S.Speech c.deref_mut.result.now c.self.inside.core.value c.self.inside.link c.self.inside.told c.deref_mut.ensures.value c.args.self.now c.self.view_is

kept : (g : Over) (c : After-next_step g) → IsSoundTelling g.S.Speech.protocol g.L.Link (before g c)
kept g c = sound-lent g.S.Speech c.deref_mut.result.now c.self.inside.core.value c.self.inside.link c.self.inside.told c.deref_mut.ensures.value g.L.Link c.self.invariant

-- whether it gave a line
told : (g : Over) (c : After-next_step g) → c.step_over-self-inside.result ≡ gives_line g.S.Speech.protocol (before g c).conn.standing (after g c).conn.standing
told g c = c.step_over-self-inside.ensures.line

pub invariant_of-self : goal.invariant_of-self
invariant_of-self g c = record {
  sound = step_sound g.S.Speech.protocol g.met.S.Speech.orderly g.L.Link (before g c).conn.standing (after g c).conn.standing c.self.inside.link c.step_over-self-inside.new.link (kept g c).sound c.step_over-self-inside.ensures.steps;
  telling = step-telling g.S.Speech.protocol g.met.S.Speech.orderly g.L.Link (before g c).conn (after g c) (kept g c).sound c.step_over-self-inside.ensures.steps (told g c);
}

pub returns-clause-sound : goal.returns-clause-sound
returns-clause-sound g c = (invariant_of-self g c).sound

pub returns-clause-shut : goal.returns-clause-shut
returns-clause-shut g c = (invariant_of-self g c).sound.shut

pub returns-clause-line : goal.returns-clause-line
returns-clause-line g c = told g c ∙ ap (λ (k : TalkState g.row.S-Contents.Denot g.row.L.Denot). gives_line g.S.Speech.protocol k.conn.standing (after g c).conn.standing) (is_before g c)

pub returns-clause-lines : goal.returns-clause-lines
returns-clause-lines g c =
    let p = g.S.Speech.protocol in
    lines-step p g.met.S.Speech.orderly g.L.Link (before g c).conn (after g c).conn (kept g c).sound c.step_over-self-inside.ensures.steps
    ∙ ap (λ line. lines_given p (before g c).conn.standing + bit line) (sym (told g c))
    ∙ ap (λ (k : TalkState g.row.S-Contents.Denot g.row.L.Denot). lines_given p k.conn.standing + bit c.step_over-self-inside.result) (is_before g c)

pub returns-clause-nothing : goal.returns-clause-nothing
returns-clause-nothing g c none =
    steps-nothing g.S.Speech.protocol g.met.S.Speech.orderly g.L.Link (before g c) (after g c) (kept g c).telling c.step_over-self-inside.ensures.steps (told g c)
    (subst (λ (k : TalkState g.row.S-Contents.Denot g.row.L.Denot). HasNoStep k.conn.standing.pending) (sym (is_before g c)) none)
    ∙ is_before g c

pub returns-clause-scripted : goal.returns-clause-scripted
returns-clause-scripted g c =
    let p = g.S.Speech.protocol in
    subst (λ (k : TalkState g.row.S-Contents.Denot g.row.L.Denot). FollowsScript p g.L.Link k.conn (after g c).conn) (is_before g c)
    (step_follows p g.L.Link (before g c).conn (after g c).conn (kept g c).sound.linked c.step_over-self-inside.ensures.steps)

pub returns-clause-begins : goal.returns-clause-begins
returns-clause-begins g c = begins_responses g.S.Speech.protocol g.met.S.Speech.orderly g.L.Link (after g c).conn (invariant_of-self g c).sound

pub returns-clause-path : goal.returns-clause-path
returns-clause-path g c =
    let p = g.S.Speech.protocol in
    subst (λ (k : TalkState g.row.S-Contents.Denot g.row.L.Denot). TakesEvent p g.L.Link k.conn (after g c).conn) (is_before g c)
    (takes-event p g.met.S.Speech.orderly g.L.Link (before g c).conn (after g c).conn (kept g c).sound c.step_over-self-inside.ensures.steps
    (step_follows p g.L.Link (before g c).conn (after g c).conn (kept g c).sound.linked c.step_over-self-inside.ensures.steps))

pub returns-clause-ended : goal.returns-clause-ended
returns-clause-ended g c end is =
    let was : (before g c).conn.standing.end ≡ Some end = ap (λ (k : TalkState g.row.S-Contents.Denot g.row.L.Denot). k.conn.standing.end) (is_before g c) ∙ is in
    end-stays g.S.Speech.protocol g.met.S.Speech.orderly g.L.Link (before g c).conn.standing (after g c).conn.standing c.self.inside.link c.step_over-self-inside.new.link end
    (kept g c).sound.ready c.step_over-self-inside.ensures.steps was
