use Rattle.mely_history.proofs.JudgeLemmas.{IsJudged}
use Rattle.mely_history.proofs.judging.judge.Given as goal

abbrev pub invariant-loop-at : goal.invariant-loop-at
invariant-loop-at l = IsJudged l.setup l.history l.at l.until
