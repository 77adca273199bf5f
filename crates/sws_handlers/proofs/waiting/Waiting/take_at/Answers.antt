use Rattle.std.proofs.Common.{◌≡◌, ◌<◌, ◌∙◌, Some, None, set, sym, ap, subst, arith, length}
use Rattle.std.proofs.lemmas.List.{length-set}
use Rattle.std.specs.Prelude.{slice_get}
use Rattle.sws_handlers.specs.Counting.{bit}
use Rattle.sws_handlers.specs.WaitingKept.{is_marked}
use Rattle.sws_handlers.specs.Waiting.{WaitingState, TakenOff}
use Rattle.sws_handlers.proofs.Events.TableLemmas.{Leaving, leaving}
use Rattle.sws_handlers.proofs.waiting.Waiting.take_at.Goals as goal
use Rattle.sws_handlers.proofs.waiting.Waiting.take_at.Goals.{After-remove-conn}

-- what is known once the number was taken out of the list
left : (c : After-remove-conn) → Leaving c.self.inside.conns.items c.remove-conn.new.self.items c.self.inside.since.items c.args.place c.remove-conn.result
left c =
    let within : c.args.place < length c.self.inside.conns.items = subst (λ (w : WaitingState). c.args.place < length w.items) (sym c.self.view_is) c.requires in
    leaving c.self.inside.conns.items c.remove-conn.new.self.items c.self.inside.since.items c.self.invariant.counted c.args.place c.remove-conn.result within c.remove-conn.ensures.value c.remove-conn.ensures.items

pub index_mut-requires : goal.index_mut-requires
index_mut-requires c =
    let gone = left (goal.at.index_mut-requires c).After-remove-conn in
    let low = gone.known in
    let same = c.from.ensures in
    let len = c.self.inside.since.ok.0 in
    omega (arith, low, same, len)

pub invariant_of-self : goal.invariant_of-self
invariant_of-self c =
    let gone = left (goal.at.invariant_of-self c).After-remove-conn in
    record {
      counted = λ i. gone.counted i ∙ ap (λ k. bit (is_marked (set c.self.inside.since.items k None) i)) (sym c.from.ensures);
      room = let room = c.self.invariant.room in let cap = c.remove-conn.ensures.capacity in let len = length-set c.self.inside.since.items c.from.result None in omega (arith, room, cap, len);
    }

pub returns-clause-there : goal.returns-clause-there
returns-clause-there c =
    let gone = left (goal.at.returns-clause-there c).After-remove-conn in
    subst (λ (w : WaitingState). slice_get w.items c.args.place ≡ Some c.remove-conn.result) c.self.view_is gone.there

pub returns-clause-known : goal.returns-clause-known
returns-clause-known c =
    let gone = left (goal.at.returns-clause-known c).After-remove-conn in
    subst (λ (w : WaitingState). c.remove-conn.result < w.total) c.self.view_is gone.known

pub returns-clause-off : goal.returns-clause-off
returns-clause-off c =
    let gone = left (goal.at.returns-clause-off c).After-remove-conn in
    subst (λ (w : WaitingState). TakenOff c.remove-conn.result w.items c.remove-conn.new.self.items) c.self.view_is gone.off
