use Rattle.std.proofs.Common.{arith}
use Rattle.sws_conn.specs.HttpLaws.{not_yet-short}
use Rattle.sws_conn.proofs.http.HttpSpeech.fill.Goals as goal

pub fill-requires-clause-short : goal.fill-requires-clause-short
fill-requires-clause-short g c = let short = not_yet-short c.args.self.now.buffer c.requires.not_yet in omega arith
