use Rattle.std.proofs.Common.{◌≡◌, ◌+◌, ap, refl, subst, arith}
use Rattle.std.proofs.lemmas.Result.{IfOk-weaker}
use Rattle.mely_history.specs.Setup.{colours_of}
use Rattle.mely_actor.proofs.ListLemmas.{one_sent}
use Rattle.example_chat_room.specs.Messages.{MayGet}
use Rattle.example_chat_room.specs.Parts.{KeepsPart}
use Rattle.example_chat_room.proofs.ChatLemmas.{is_chat}
use Rattle.example_chat_room.proofs.running.run_chat.Goals as goal

pub returns : goal.returns
returns g c =
    let l = g.W.Link.Link in
    let tells = g.W.World.tells in
    let coming = (tells c.args.world).coming in
    let clients = (tells c.args.world).total in
    let many = c.total-clients.result in
    let total = c.total-clients.ensures in
    let begins = ap (λ world. (tells world).coming) c.of.ensures in
    let made = c.in-Ok-new.ensures.colours in
    let colours : colours_of c.in-Ok-new.setup ≡ clients + 2 = omega (arith, made, total) in
    let posted = one_sent _ _ _ c.new-posts.ensures.items c.in_ok-push.ensures.items in
    IfOk-weaker c.run_actors.result _ _ (λ ended kept. is_chat l _ tells coming clients _ c.in-Ok-new.setup c.push.new.self.items (record { world = c.args.world; accepted = 0 }) posted refl _ ended.values.items kept colours
    (λ colour received sent one keeps. subst (λ n. KeepsPart l coming n colour received sent one) total (subst (λ k. KeepsPart l k many colour received sent one) begins keeps))
    (λ colour message so. subst (λ n. MayGet l tells coming n colour message) total (subst (λ k. MayGet l tells k many colour message) begins so)) c.args.workers (ap (λ shape. shape.cores) c.in-Ok-new.ensures.shape) (ap (λ shape. shape.shards) c.in-Ok-new.ensures.shape) refl) c.run_actors.ensures.kept
