use Rattle.std.proofs.Common.{◌∷◌, [], length, length-append, refl, ap, ◌∙◌, arith}
use Rattle.mely_net.specs.declared.part.Part.TheVariants as part
use Rattle.mely_net.specs.Parts.{IsFresh}
use Rattle.mely_net.proofs.FreshLemmas.{each_push}
use Rattle.mely_net.proofs.fresh.add_clients.Goals as goal

pub clients-preserved : goal.clients-preserved
clients-preserved g c =
    let many = c.clients.invariant.many in
    let pushed = c.in_ok-push.ensures.items in
    let longer = ap length pushed ∙ length-append c.clients.parts.items (part.Client c.new.result ∷ []) in
    record {
      many = omega (arith, many, longer);
      fresh = λ cells front fresh number one at.
          each_push (IsFresh cells) c.clients.parts.items (part.Client c.new.result) (length c.clients.parts.items) refl (c.clients.invariant.fresh cells front fresh) (omega (arith, front, many), c.new.ensures) number one (rw (← pushed) at);
    }
