use Rattle.mely_steal.proofs.TableMarksLemmas.{entries_without-has, class-none}
use Rattle.mely_steal.specs.Entering.{entries_without}
use Rattle.mely_steal.proofs.steal_table.move_to.Goals as goal

pub add_to-requires-clause-absent : goal.add_to-requires-clause-absent
add_to-requires-clause-absent c = rw c.remove.ensures (class-none c.args.colour (entries_without c.args.colour c.args.classes.now.entries) (entries_without-has c.args.colour c.args.classes.now.entries))
