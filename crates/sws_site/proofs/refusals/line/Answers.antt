use Rattle.std.proofs.Common.{ℕ, List, ◌∷◌, [], ◌++◌, ap, ◌∙◌}
use Rattle.sws_site.proofs.SiteLemmas.{fixed_body-text}
use Rattle.sws_site.proofs.refusals.line.Goals as goal

pub returns-clause-body : goal.returns-clause-body
returns-clause-body c = c.in_ok-response.ensures.body ∙ fixed_body-text c.args.status c.shrink_to_fit.new.self.items
    (c.shrink_to_fit.ensures.items ∙ c.in_ok-extend_from_slice-2.ensures.items
    ∙ ap (λ (body : List ℕ). body ++ 10 ∷ []) (c.in_ok-extend_from_slice.ensures.items ∙ (λ i. c.new-body.ensures.items i ++ (c.row.ensures i).text)))
