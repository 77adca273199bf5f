use Rattle.std.proofs.Common.{◌∷◌, ◌++◌, ◌∙◌, [], subst, sym}
use Rattle.sws_steps.specs.Logs.{IsLineOf}
use Rattle.sws_access.proofs.TellingLemmas.{told-on}
use Rattle.sws_access.proofs.telling.TellingTalk.step.Goals as goal

pub returns-in-Some-clause-runs : goal.returns-in-Some-clause-runs
returns-in-Some-clause-runs g c first trail event told is_due =
    let before = c.args.self.now in
    let after = c.step-next.new.self in
    let ran = c.step-next.ensures.runs first trail event told.ran is_due in
    let of_log = subst (λ n. IsLineOf (g.T.Talk.log (g.T.Talk.hall_of after) n) (g.L.Link.tells first) c.in-Some.line) c.number.ensures
    (c.in-Some.ensures.exact first (trail ++ event ∷ []) ran) in
    told-on g.L.Link g.T.Talk g.C.Clerk.number_of g.C.Clerk.told_of first trail (trail ++ event ∷ []) before.talk after before.clerk c.tell.new.self c.in-Some.line
    (record {
      hall = c.step-next.ensures.hall;
      lines = c.step-next.ensures.lines;
      given = sym c.in-Some.ensures.told;
      conn = c.in-Some.ensures.line.0 ∙ c.number.ensures;
      turn = c.in-Some.ensures.line.1;
      told = c.tell.ensures.told;
      number = c.tell.ensures.number;
    })
    of_log ran told
