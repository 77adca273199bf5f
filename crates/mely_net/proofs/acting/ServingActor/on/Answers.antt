use Rattle.std.proofs.Common.{◌++◌, ◌∷◌, [], subst}
use Rattle.std.specs.List.{AllByRecursion}
use Rattle.mely_net.specs.declared.part.Part.TheVariants as part
use Rattle.mely_net.specs.Exchanges.{IsAt}
use Rattle.mely_net.specs.Messages.{IsSigned}
use Rattle.mely_net.specs.Parts.{KeepsPart}
use Rattle.mely_net.proofs.PartLemmas.{part_goes, quiet_signed}
use Rattle.mely_net.proofs.acting.ServingActor.on.Goals as goal

pub returns-in-Desk-clause-kept : goal.returns-in-Desk-clause-kept
returns-in-Desk-clause-kept g c = λ received sent many kept.
    let rules = g.S.Service.rules_of c.args.self.now.service in
    let l = g.W.Link.Link in
    let Begins = IsAt c.args.self.now.firsts.value.items in
    let colour = c.args.place.colour in
    part_goes rules l Begins colour received (received ++ c.args.message ∷ []) sent c.at_desk.new.sends (part.Desk c.in-Desk.desk) (part.Desk c.at_desk.new.desk) (quiet_signed rules.cells colour c.at_desk.new.sends c.at_desk.ensures.quiet)
    (λ is. is) (subst (KeepsPart rules l Begins colour received sent) c.in-Desk.is kept)

pub returns-in_ok-at_cell-in-Cell-clause-kept : goal.returns-in_ok-at_cell-in-Cell-clause-kept
returns-in_ok-at_cell-in-Cell-clause-kept g c = λ received sent many kept.
    let rules = g.S.Service.rules_of c.args.self.now.service in
    let l = g.W.Link.Link in
    let Begins = IsAt c.args.self.now.firsts.value.items in
    let colour = c.args.place.colour in
    part_goes rules l Begins colour received (received ++ c.args.message ∷ []) sent c.at_cell.new.sends (part.Cell c.in-Cell.value) (part.Cell c.at_cell.new.value)
    (subst (λ n. AllByRecursion (λ send. IsSigned n colour send.1) c.at_cell.new.sends) c.args.self.now.cells c.in_ok-at_cell-in-Cell.ensures.signed)
    (λ is. record { first = is.first; begins = is.begins; is = c.in_ok-at_cell-in-Cell.ensures.kept is.first received sent is.is }) (subst (KeepsPart rules l Begins colour received sent) c.in-Cell.is kept)

pub returns-in-Client-clause-kept : goal.returns-in-Client-clause-kept
returns-in-Client-clause-kept g c = λ received sent many kept.
    let rules = g.S.Service.rules_of c.args.self.now.service in
    let l = g.W.Link.Link in
    let Begins = IsAt c.args.self.now.firsts.value.items in
    let colour = c.args.place.colour in
    part_goes rules l Begins colour received (received ++ c.args.message ∷ []) sent c.at_client.new.sends (part.Client c.in-Client.client) (part.Client c.at_client.new.client)
    (subst (λ n. AllByRecursion (λ send. IsSigned n colour send.1) c.at_client.new.sends) c.args.self.now.cells c.at_client.ensures.signed)
    (c.at_client.ensures.kept received sent) (subst (KeepsPart rules l Begins colour received sent) c.in-Client.is kept)
