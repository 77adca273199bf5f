use Rattle.mely_picture.proofs.MarkLemmas.{take_marked, steal_marked}
use Rattle.mely_picture.proofs.mark.push_mark.Goals as goal

pub returns-in_ok-push_bar-in-Take : goal.returns-in_ok-push_bar-in-Take
returns-in_ok-push_bar-in-Take c =
    take_marked c.args.top c.args.text.now.items c.push_bar.new.text.items c.args.at c.args.entry.now c.args.rest.now c.in-Take.colour c.in-Take.core c.in-Take.count c.entries_before_finish.result c.in-Take.is
    c.entries_before_finish.ensures.value c.in_ok-push_bar-in-Take.ensures

pub returns-in_ok-push_arrow-in-Steal : goal.returns-in_ok-push_arrow-in-Steal
returns-in_ok-push_arrow-in-Steal c =
    steal_marked c.args.top c.args.text.now.items c.push_arrow.new.text.items c.args.at c.args.entry.now c.args.rest.now c.in-Steal.colour c.in-Steal.from c.in-Steal.to c.in-Steal.is
    c.in_ok-push_arrow-in-Steal.ensures
