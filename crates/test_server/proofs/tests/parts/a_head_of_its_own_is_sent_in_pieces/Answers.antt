use Rattle.std.proofs.Common.{◌≡◌, ◌++◌, length, ap, ◌∙◌, arith, lit<}
use Rattle.std.specs.Prelude.{codes}
use Rattle.std.proofs.lemmas.Fmt.{length-decimal-le}
use Rattle.test_server.proofs.tests.parts.a_head_of_its_own_is_sent_in_pieces.Goals as goal

pub put_number-requires : goal.put_number-requires
put_number-requires g c =
    let five : length c.put.new.self ≡ 5 = ap length (c.put.ensures ∙ ap (λ head. head ++ codes "part ") c.new-head.ensures) in
    omega (arith, five, length-decimal-le 2 10 (lit< tt) (lit< tt) (lit< tt))
