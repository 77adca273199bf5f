use Rattle.sws_script.proofs.AnswerLemmas.{answers-input, answers-fault}
use Rattle.sws_script.proofs.parsing.parse.Goals as goal

pub returns-clause-reads : goal.returns-clause-reads
returns-clause-reads c =
    answers-input c.args.schedule c.args.cores c.args.text.now c.read_lines.result c.read_lines.ensures.input c.read_lines.ensures.fault

pub returns-clause-refuses : goal.returns-clause-refuses
returns-clause-refuses c =
    answers-fault c.args.schedule c.args.cores c.args.text.now c.read_lines.result c.read_lines.ensures.input c.read_lines.ensures.fault
