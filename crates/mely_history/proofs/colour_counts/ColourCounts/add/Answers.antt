use Rattle.mely_history.proofs.ColourCountsLemmas.{add_reg, add_take, add_fin, add_steal}
use Rattle.std.proofs.Common.{arith, ◌∙◌}
use Rattle.mely_history.proofs.colour_counts.ColourCounts.add.Goals as goal

pub overflow_sub-self : goal.overflow_sub-self
overflow_sub-self c = (add_take c.args.setup.now c.args.before.now c.args.entry.now c.args.self.now c.requires.tells c.in-Take.colour c.in-Take.core c.in-Take.count _ _ c.in-Take.is c.requires.may c.pass_over-front.ensures).0

pub returns-in-Reg : goal.returns-in-Reg
returns-in-Reg c = let light = c.weight_in.type_inv in let same = c.from.ensures in add_reg c.args.setup.now c.args.before.now c.args.entry.now c.args.self.now c.requires.tells c.in-Reg.colour c.in-Reg.event c.in-Reg.by c.from.result c.in-Reg.is (c.from.ensures ∙ c.weight_in.ensures) (omega (arith, light, same))

pub returns-in-Take : goal.returns-in-Take
returns-in-Take c = (add_take c.args.setup.now c.args.before.now c.args.entry.now c.args.self.now c.requires.tells c.in-Take.colour c.in-Take.core c.in-Take.count _ _ c.in-Take.is c.requires.may c.pass_over-front.ensures).1

pub returns-in-Fin : goal.returns-in-Fin
returns-in-Fin c = add_fin c.args.setup.now c.args.before.now c.args.entry.now c.args.self.now c.requires.tells c.in-Fin.colour c.in-Fin.core c.in-Fin.count c.in-Fin.is c.requires.may

pub returns-in-Steal : goal.returns-in-Steal
returns-in-Steal c = add_steal c.args.setup.now c.args.before.now c.args.entry.now c.args.self.now c.requires.tells c.in-Steal.colour c.in-Steal.from c.in-Steal.to c.in-Steal.is
