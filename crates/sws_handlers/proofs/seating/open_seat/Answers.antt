use Rattle.std.proofs.Common.{sym, ap, ◌∙◌}
use Rattle.std.proofs.lemmas.Option.{none-some}
use Rattle.sws_conn.specs.Talks.{TalkView}
use Rattle.sws_handlers.proofs.seating.open_seat.Goals as goal

pub returns-clause-ended : goal.returns-clause-ended
returns-clause-ended g c end is = absurd (none-some end (sym (ap (λ (v : TalkView). v.end) c.requires.unopened.1) ∙ is))
