use Rattle.mely_picture.proofs.TurnLemmas.{ends_with_turn}
use Rattle.mely_picture.proofs.laws.a_bar_is_a_turn.Goals as goal

pub returns : goal.returns
returns c = ends_with_turn
