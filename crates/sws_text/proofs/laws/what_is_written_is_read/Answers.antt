use Rattle.sws_text.proofs.WrittenLemmas.{StandsFor-text_of}
use Rattle.sws_text.proofs.LengthLemmas.{StandsFor-shortest}
use Rattle.sws_text.proofs.laws.what_is_written_is_read.Goals as goal

pub returns : goal.returns
returns c = record { stands = StandsFor-text_of; shortest = StandsFor-shortest }
