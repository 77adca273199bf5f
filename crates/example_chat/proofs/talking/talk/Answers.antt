use Rattle.std.proofs.Common.{◌+◌, sym, subst}
use Rattle.std.proofs.lemmas.Result.{IfOk-weaker}
use Rattle.std.specs.List.{AllByRecursion}
use Rattle.mely_actor.specs.Sending.{MaySend}
use Rattle.example_chat.specs.declared.chat.TheConstants.{CLIENTS}
use Rattle.example_chat.specs.Chats.{MayHear, event_of}
use Rattle.example_chat.proofs.HeardLemmas.{are_talked}
use Rattle.example_chat.proofs.SeatLemmas.{may_say}
use Rattle.example_chat.proofs.talking.talk.Goals as goal

pub run_actors-requires-clause-posts : goal.run_actors-requires-clause-posts
run_actors-requires-clause-posts g c κs within =
    let may = subst (AllByRecursion _) (sym c.in_ok-posts.ensures) (may_say c.args.lines.items c.requires.clients) in
    subst (λ lines. AllByRecursion (MaySend (CLIENTS + 1) 4 event_of (MayHear lines.items)) c.in_ok-posts.posts.items) (sym c.of.ensures) may

pub returns : goal.returns
returns g c = IfOk-weaker c.run_actors.result _ _ (λ ended kept. are_talked _ _ c.args.lines.items c.in-Ok-new.setup _ ended.values.items c.in-Ok-new.ensures.colours (λ colour message is. subst (λ lines. MayHear lines.items colour message) c.of.ensures is) (λ colour received sent seat keeps. keeps) c.in_ok-posts.posts.items c.in_ok-posts.ensures c.requires.clients c.requires.few kept) c.run_actors.ensures.kept
