use Rattle.std.proofs.Common.{◌≡◌, ◌≤◌, [], length, sym, ◌∙◌, eqb-true, deque_len}
use Rattle.std.proofs.lemmas.List.{nil_from_length}
use Rattle.mely_actor.proofs.RunLemmas.{few_put}
use Rattle.mely_actor.proofs.waiting.send_all.Goals as goal

pub returns-then-are_few-clause-sent : goal.returns-then-are_few-clause-sent
returns-then-are_few-clause-sent g c =
    let waiting = c.args.waiting.now in
    let idle = c.if-not-busy.true in
    let none : deque_len waiting ≡ 0 = eqb-true (deque_len waiting) 0 (sym c.is_empty-busy.ensures ∙ idle) in
    let empty : waiting.items ≡ [] = nil_from_length waiting.items (sym waiting.ok.0 ∙ none) in
    let few : length c.args.sends ≤ 2 = c.are_few.ensures.0 c.if-are_few.true in
    few_put g.A.Actor.event_of c.args.colour waiting.items c.args.sends _ _ _ c.args.outs.now c.send_one.new.outs c.send_one-then-are_few.new.outs empty c.into_parts-first.ensures.parts (c.into_parts-first.ensures.few few) few c.requires c.send_one.ensures.puts c.send_one-then-are_few.ensures.puts
