use Rattle.std.proofs.Common.{true, false, ap, sym, ◌∙◌}
use Rattle.sws_site.specs.Fixed.{fixed_body}
use Rattle.sws_site.specs.Folders.{redirect_head}
use Rattle.sws_site.proofs.folders.redirect.Goals as goal

pub returns : goal.returns
unfolding fixed_body
returns c = (
  sym c.redirects_to.ensures.redirects ∙ c.if-not-redirects_to.false,
  record {
    body = c.in_ok-body.ensures.items;
    open_head = c.in_ok-open_head.ensures ∙ ap (λ path. redirect_head c.args.options.now path false) (c.as_bytes.ensures.value ∙ c.in_ok-path.ensures);
    closing_head = c.in_ok-closing_head.ensures ∙ ap (λ path. redirect_head c.args.options.now path true) (c.as_bytes-2.ensures.value ∙ c.in_ok-path.ensures);
  },
)
