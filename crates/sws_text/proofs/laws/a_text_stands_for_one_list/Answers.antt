use Rattle.sws_text.proofs.TextLemmas.{StandsFor-unique}
use Rattle.sws_text.proofs.WrittenLemmas.{StandsFor-shown}
use Rattle.sws_text.proofs.LengthLemmas.{StandsFor-few}
use Rattle.sws_text.proofs.laws.a_text_stands_for_one_list.Goals as goal

pub returns : goal.returns
returns c = record { one = StandsFor-unique; seen = StandsFor-shown; few = StandsFor-few }
