use Rattle.std.proofs.Common.{◌-◌, arith}
use Rattle.sws_gopher.proofs.HallLemmas.{texts-at}
use Rattle.sws_gopher.proofs.preparing.prepare_texts.Goals as goal

pub files-preserved : goal.files-preserved
files-preserved c = record {
  within = omega arith;
  texts = texts-at c.args.site.now.files (c.files.start - 1) c.files.start c.files.texts c.add_text.new.texts (omega arith) (omega arith) c.files.invariant.texts c.in_ok-add_text.ensures;
}
