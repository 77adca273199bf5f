use Rattle.std.proofs.Common.{◌∙◌, Option, None, Some, inl, inr}
use Rattle.std.proofs.lemmas.Bool.{false≢true}
use Rattle.std.specs.declared.net.ip_addr.IpAddr.{IpAddr}
use Rattle.sws_proxy.specs.Lines.{TextNames}
use Rattle.sws_proxy.proofs.line.read_text.Goals as goal

pub returns-in-None-tcp : goal.returns-in-None-tcp
returns-in-None-tcp c = no
  where
    no : (client : Option IpAddr) → TextNames c.args.text.now client → ⊥
    no None is = false≢true (c.if-starts_with.ensures.value ∙ is)
    no (Some client) (inl one) = c.in-None.ensures client one
    no (Some client) (inr other) = c.in-None-tcp.ensures client other
