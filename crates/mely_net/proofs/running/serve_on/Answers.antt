use Rattle.std.proofs.Common.{◌≡◌, ◌+◌, [], refl, sym, subst, arith}
use Rattle.std.proofs.lemmas.Result.{IfErr-weaker, IfOk-weaker}
use Rattle.mely_history.specs.Setup.{colours_of}
use Rattle.mely_actor.proofs.ListLemmas.{one_sent}
use Rattle.mely_net.specs.Exchanges.{IsAt}
use Rattle.mely_net.specs.Messages.{MayGet}
use Rattle.mely_net.specs.Parts.{KeepsPart}
use Rattle.mely_net.specs.Served.{HasHalted}
use Rattle.mely_net.proofs.PartLemmas.{fresh_keeps}
use Rattle.mely_net.proofs.ServedLemmas.{has_halted, has_served, nothing_halted}
use Rattle.mely_net.proofs.running.serve_on.Goals as goal

pub returns-in_default-clause-halted : goal.returns-in_default-clause-halted
returns-in_default-clause-halted g c = subst (HasHalted (g.S.Service.rules_of c.args.service) g.W.Link.Link (IsAt c.args.cells.items) (g.W.World.tells c.args.world).total) (sym c.new.ensures.items)
    (nothing_halted (g.S.Service.rules_of c.args.service) g.W.Link.Link (IsAt c.args.cells.items) (g.W.World.tells c.args.world).total)

pub returns-in_default-make_parts-clause-halted : goal.returns-in_default-make_parts-clause-halted
returns-in_default-make_parts-clause-halted g c = subst (HasHalted (g.S.Service.rules_of c.args.service) g.W.Link.Link (IsAt c.args.cells.items) (g.W.World.tells c.args.world).total) (sym c.new.ensures.items)
    (nothing_halted (g.S.Service.rules_of c.args.service) g.W.Link.Link (IsAt c.args.cells.items) (g.W.World.tells c.args.world).total)

pub run_values-requires-clause-begun : goal.run_values-requires-clause-begun
run_values-requires-clause-begun g c κs within = record {
  many = c.in-Ok-make_parts.ensures.many;
  each = λ i one at. subst (λ firsts. KeepsPart (g.S.Service.rules_of c.args.service) g.W.Link.Link (IsAt firsts.items) (record { 0 = i }) [] [] one) (sym c.of-firsts.ensures)
      (fresh_keeps (g.S.Service.rules_of c.args.service) g.W.Link.Link c.args.cells.items c.requires.cells i one (c.in-Ok-make_parts.ensures.fresh i one at));
}

pub run_values-requires-clause-posts : goal.run_values-requires-clause-posts
run_values-requires-clause-posts g c κs within =
    rw (one_sent _ _ _ c.in-Ok.ensures.items c.push_reserved.ensures.items) (record { there = omega arith; own = omega arith; row = omega arith; is_sound = (refl, λ low. (c.requires.begins, sym c.total.ensures)) }, tt)

pub returns-clause-served : goal.returns-clause-served
returns-clause-served g c =
    let rules = g.S.Service.rules_of c.args.service in
    let l = g.W.Link.Link in
    let tells = g.W.World.tells in
    let clients = (tells c.args.world).total in
    let cells = c.cells.ensures in
    let total = c.total.ensures in
    let made = c.set_up-setup.ensures.colours in
    let colours : colours_of c.set_up-setup.result ≡ rules.cells + clients + 1 = omega (arith, made, cells, total) in
    let posted = one_sent _ _ _ c.in-Ok.ensures.items c.push_reserved.ensures.items in
    IfOk-weaker c.run_values.result _ _ (λ ended kept. has_served rules l (IsAt c.args.cells.items) _ tells clients _ c.set_up-setup.result c.push_reserved.new.self.items (record { world = c.args.world; accepted = 0 }) posted _ ended.values.items kept colours
    (λ colour received sent part keeps. subst (λ firsts. KeepsPart rules l (IsAt firsts.items) colour received sent part) c.of-firsts.ensures keeps)
    (λ colour message so. subst (λ n. MayGet tells l.tells l.is_shut n clients colour message) cells (subst (λ n. MayGet tells l.tells l.is_shut c.cells.result n colour message) total so))) c.run_values.ensures.kept

pub returns-clause-halted : goal.returns-clause-halted
returns-clause-halted g c =
    let rules = g.S.Service.rules_of c.args.service in
    let l = g.W.Link.Link in
    let clients = (g.W.World.tells c.args.world).total in
    let cells = c.cells.ensures in
    let total = c.total.ensures in
    let many : c.cells.result + c.total.result + 1 ≡ rules.cells + clients + 1 = omega (arith, cells, total) in
    IfErr-weaker c.run_values.result _ _ (λ halted left. has_halted rules l (IsAt c.args.cells.items) _ clients (c.cells.result + c.total.result + 1) _ halted.values.items many
    (λ colour received sent part keeps. subst (λ firsts. KeepsPart rules l (IsAt firsts.items) colour received sent part) c.of-firsts.ensures keeps) left) c.run_values.ensures.left
