use Rattle.std.specs.Prelude.{IfSome, is_some, Option}
use Rattle.std.proofs.Common.{ap, subst, sym, ◌≡◌, ◌∙◌}
use Rattle.sws_log.specs.declared.line.LogLine.{LogLine}
use Rattle.sws_steps.specs.Logs.{IsLineOf, lines_given, log_of}
use Rattle.sws_steps.proofs.Logs.ToldLemmas.{line_told-some, line_told-turn, told-line-is}
use Rattle.sws_steps.proofs.conn_talk.SpeechConnTalk.answered.Goals as goal

pub returns-clause-told : goal.returns-clause-told
returns-clause-told g c = ap (λ (o : Option LogLine). is_some o) c.answered.ensures.line ∙ line_told-some g.S.Speech.protocol c.args.conn c.args.self.now

pub returns-clause-line : goal.returns-clause-line
returns-clause-line g c =
    subst (λ (o : Option LogLine). IfSome o (λ line. (line.conn ≡ c.args.conn) × (line.turn ≡ lines_given g.S.Speech.protocol c.args.self.now.conn.standing))) (sym c.answered.ensures.line)
    (line_told-turn g.S.Speech.protocol c.args.conn c.args.self.now c.answered.ensures.telling)

pub returns-clause-exact : goal.returns-clause-exact
returns-clause-exact g c first trail run =
    subst (λ (o : Option LogLine). IfSome o (IsLineOf (log_of g.S.Speech.protocol c.args.self.now.conn.standing.hall c.args.conn) (g.L.Link.tells first))) (sym c.answered.ensures.line)
    (told-line-is g.S.Speech.protocol g.met.S.Speech.orderly g.L.Link first trail c.args.self.now c.args.conn run)
