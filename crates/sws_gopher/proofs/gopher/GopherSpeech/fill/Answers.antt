use Rattle.std.proofs.Common.{arith}
use Rattle.sws_gopher.proofs.CutLemmas.{not_yet-few}
use Rattle.sws_gopher.proofs.gopher.GopherSpeech.fill.Goals as goal

pub fill-requires-clause-short : goal.fill-requires-clause-short
fill-requires-clause-short g c = let few = not_yet-few c.args.self.now.window c.requires.not_yet in omega arith
