use Rattle.std.proofs.Common.{◌++◌, ◌∷◌, [], ◌+◌, sym, ap, ◌∙◌, subst}
use Rattle.mely_actor.proofs.ListLemmas.{one_sent}
use Rattle.mely_net.specs.Parts.{IsCell}
use Rattle.mely_net.proofs.PartLemmas.{cell_asked}
use Rattle.mely_net.proofs.serving.at_cell.Goals as goal

pub returns-clause-kept : goal.returns-clause-kept
returns-clause-kept g c = λ first received sent kept.
    let rules = g.S.Service.rules_of c.args.service.now in
    let l = g.W.Link.Link in
    let to_is = ap (λ colour. colour.0) c.client.ensures ∙ ap (λ n. c.in-Ask.from + n + 1) c.requires.cells in
    subst (λ m. IsCell rules l c.args.colour (received ++ m ∷ []) (sent ++ c.send.new.self) first c.on.new.value) (sym c.in-Ask.is)
    (cell_asked rules l c.args.colour received sent c.send.new.self first c.args.value.now c.on.new.value c.in-Ask.from c.in-Ask.request c.in_ok-reply.reply c.client.result to_is c.in_ok-reply.ensures (one_sent _ _ _ c.requires.empty c.send.ensures) kept)
