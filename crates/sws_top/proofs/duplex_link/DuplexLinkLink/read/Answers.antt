use Rattle.sws_top.proofs.DuplexLinkLemmas.{left_kept}
use Rattle.sws_top.proofs.duplex_link.DuplexLinkLink.read.Goals as goal

pub invariant_of-self : goal.invariant_of-self
invariant_of-self g c = record {
  left = left_kept (g.R.Source.left c.args.self.now.first_source.now.value) (g.R.Source.left c.args.self.now.source.now) (g.R.Source.left c.read.new.self)
      c.read.result c.read.new.into c.args.self.now.left c.read.ensures.bytes;
  written = c.args.self.now.written;
}
