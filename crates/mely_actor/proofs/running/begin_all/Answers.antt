use Rattle.std.proofs.Common.{◌≡◌, ◌+◌, rules, sym, subst, arith}
use Rattle.mely_history.specs.Setup.{colours_of}
use Rattle.mely_actor.specs.Received.{AreBegun}
use Rattle.mely_actor.proofs.StatesLemmas.{none_begun, more_begun}
use Rattle.mely_actor.proofs.running.begin_all.Goals as goal

pub colours-init : goal.colours-init
colours-init g c = subst (AreBegun g.A.Actor c.args.actor.now 0) (sym c.new-values.ensures.items) (none_begun g.A.Actor c.args.actor.now)

pub colours-preserved : goal.colours-preserved
colours-preserved g c =
    subst (AreBegun g.A.Actor c.args.actor.now (c.colours.number + 1)) (sym c.in_ok-push.ensures.items) (more_begun g.A.Actor c.args.actor.now c.colours.number c.colours.values.items c.in_ok-begin.field-0 c.colours.invariant (search rules))

pub returns : goal.returns
returns g c =
    let value = c.colours-number-end.ensures.value in
    let ended = c.colours-test.false in
    let within = c.colours.auto.number-end in
    let all : c.colours.number ≡ colours_of c.args.setup.now = omega (arith, value, ended, within) in
    subst (λ n. AreBegun g.A.Actor c.args.actor.now n c.colours.values.items) all c.colours.invariant
