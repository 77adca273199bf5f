-- The schedule keeps the total, the drain keeps it, and the parts have it.
use Rattle.std.proofs.Common.{ℕ, ◌≡◌, Option, unwrap_or, ◌∙◌, arith}
use Rattle.mely_event.specs.declared.event.Event.{Event}
use Rattle.mely_event.specs.declared.logged.Logged.{Logged}
use Rattle.mely_tally.specs.Tells.{total_of}
use Rattle.test_weave.proofs.tests.sums.play.Goals as goal

pub returns : goal.returns
returns g c =
    let coins : Logged ℕ → ℕ = λ p. p.value in
    let brought : Event × Option ℕ → ℕ = λ way. unwrap_or way.1 0 in
    let keeps = c.what_each_handler_keeps_a_run_keeps.ensures in
    let run = keeps.run c.args.app.now coins brought (λ state event load becomes puts fit ran. ran) _ _ c.args.weave c.run.new.self c.stands_well.ensures.keeps c.run.ensures.runs in
    let drain = keeps.drain c.args.app.now coins brought (λ state event load becomes puts fit ran. ran) _ c.run.new.self c.drain.new.self c.run.ensures.stands c.drain.ensures.drains in
    let parts = c.into_parts.ensures in
    let stands = c.stands_well-2.ensures in
    let apart = (c.the_parts_are_what_the_weave_had.ensures c.drain.new.self _ _ _ _ stands.keeps stands.parts c.drain.ensures.free parts.histories parts.states parts.queued parts.lost).made in
    let states = apart.states coins in
    let ways = apart.ways brought in
    let total : total_of coins brought c.drain.new.self ≡ total_of coins brought c.args.weave = drain ∙ run in
    omega (arith, total, states, ways)
