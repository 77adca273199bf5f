use Rattle.std.proofs.Common.{◌≡◌, ◌∷◌, [], ◌++◌, Bool, List, true, length, map, vec_len, refl, sym, ap, ◌∙◌, subst, arith, append_assoc}
use Rattle.std.proofs.lemmas.List.{map-append}
use Rattle.std.specs.Vec.Iter.{into_iter_items}
use Rattle.std.specs.List.{AllByRecursion}
use Rattle.mely_history.specs.declared.history.History.{History}
use Rattle.sws_replay.proofs.TextLemmas.{list_taken}
use Rattle.sws_replay.proofs.writing.lists_of.Goals as goal

pub loop-history-init : goal.loop-history-init
loop-history-init c =
    let gives = c.into_iter-history-iterator.ensures.into_iter_gives in
    let count = ap length gives.0 in
    record {
      split = gives.0;
      left = (let many = gives.1 in let long = c.args.histories.ok in omega (arith, many, long, count));
      room = (let room = c.in_ok-reserve.ensures.ok in let len = c.in_ok-reserve.ensures.len in let all = c.len.ensures in omega (arith, room, len, all, count));
      listed = subst (λ (l : List History). AllByRecursion (λ history. history.listed ≡ true) l) (sym gives.0) (subst (λ (b : Bool). AllByRecursion (λ history. history.listed ≡ b) c.args.histories.items) c.if-listed.true c.requires);
      lists = ap (λ ls. map (λ list. list.items) ls) (c.in_ok-reserve.ensures.items ∙ c.new-lists.ensures.items);
    }

pub loop-history-preserved : goal.loop-history-preserved
loop-history-preserved c =
    let at = c.loop-history.invariant in
    let history = c.in-Some.history in
    let steps : into_iter_items c.loop-history.history-iterator ≡ history ∷ into_iter_items c.next.new.self = c.in-Some.ensures.steps.0 in
    let short = ap length steps in
    let left = at.left in
    let gone = c.in-Some.ensures.steps.1 in
    let listed = subst (λ (l : List History). AllByRecursion (λ history. history.listed ≡ true) l) steps at.listed in
    record {
      split = append_assoc c.loop-history.yielded (history ∷ []) _ ∙ rw (← steps) at.split;
      left = omega (arith, left, short, gone);
      room = (let room = at.room in let len = c.push_reserved.ensures.len in let same = c.push_reserved.ensures.capacity in omega (arith, room, len, same, short));
      listed = listed.1;
      lists = ap (λ ls. map (λ list. list.items) ls) c.push_reserved.ensures.items ∙ map-append (λ list. list.items) c.loop-history.lists.items (c.in-Some-into_entries.entries ∷ [])
          ∙ ap (λ ls. ls ++ c.in-Some-into_entries.entries.items ∷ []) at.lists
          ∙ ap (λ l. map (λ history. history.items) c.loop-history.yielded ++ l ∷ []) (list_taken history c.in-Some-into_entries.entries.items listed.0 c.in-Some-into_entries.ensures)
          ∙ sym (map-append (λ history. history.items) c.loop-history.yielded (history ∷ []));
    }
