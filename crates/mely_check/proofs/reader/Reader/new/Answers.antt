use Rattle.mely_check.proofs.ReaderLemmas.{knows_new}
use Rattle.mely_check.specs.Readers.{nobody}
use Rattle.mely_check.proofs.reader.Reader.new.Goals as goal

pub returns-clause-knows : goal.returns-clause-knows
returns-clause-knows c =
    let judge = c.in_ok-new.ensures in
    knows_new nobody c.args.setup.now (record { place = c.new.result; line = c.new-2.result; judge = c.in_ok-new.field-0 }) tt c.new.ensures.at c.new-2.ensures.items judge.setup judge.fault judge.watches judge.cores
