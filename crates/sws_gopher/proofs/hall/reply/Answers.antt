use Rattle.std.proofs.Common.{[], ap, ◌∙◌}
use Rattle.sws_gopher.specs.Replies.{reply_of, reply_to}
use Rattle.sws_gopher.proofs.hall.reply.Goals as goal

pub returns : goal.returns
unfolding reply_of
returns c = c.new.ensures ∙ ap (λ body. record { head = []; body = body }) (c.bytes_for.ensures ∙ ap (reply_to c.args.hall.now) c.without_first.ensures)
