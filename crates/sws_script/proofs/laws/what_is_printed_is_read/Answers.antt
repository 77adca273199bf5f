use Rattle.sws_script.specs.Printed.{print_input}
use Rattle.sws_script.proofs.AnswerLemmas.{Spells-unique}
use Rattle.sws_script.proofs.PrintedLemmas.{printed-spells}
use Rattle.sws_script.proofs.laws.what_is_printed_is_read.Goals as goal

pub returns : goal.returns
returns c = record {
  spells = printed-spells;
  only = λ schedule cores input other is short spells. Spells-unique schedule cores (print_input schedule input) other input spells (printed-spells schedule cores input is short);
}
