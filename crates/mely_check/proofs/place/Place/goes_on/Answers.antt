use Rattle.std.proofs.Common.{sym, subst}
use Rattle.std.specs.Prelude.{MatchBool}
use Rattle.mely_check.specs.Reading.{Says}
use Rattle.mely_check.specs.Walks.{MayStand, MayNotStand}
use Rattle.mely_check.specs.declared.reading.Line.{Line}
use Rattle.mely_check.proofs.StepLemmas.{shard_step, entry_step}
use Rattle.mely_check.proofs.place.Place.goes_on.Goals as goal

pub returns-in-Shard-clause-stands : goal.returns-in-Shard-clause-stands
returns-in-Shard-clause-stands c = λ lines at.
    let place = c.args.self.now in
    let line = c.args.line.now in
    subst (λ (s : Line). MatchBool c.begin.result (MayStand lines line place at c.begin.new.self s) (MayNotStand lines line place)) (sym c.in-Shard.is)
    (shard_step lines place c.begin.new.self line c.in-Shard.number c.in-Shard.count c.begin.result place.shards_in place.begun_few c.requires.is_line (subst (λ (s : Line). Says line s) c.in-Shard.is c.requires.says) c.begin.ensures at)

pub returns-in-Entry-clause-stands : goal.returns-in-Entry-clause-stands
returns-in-Entry-clause-stands c = λ lines at.
    let place = c.args.self.now in
    let line = c.args.line.now in
    subst (λ (s : Line). MatchBool c.count_entry.result (MayStand lines line place at c.count_entry.new.self s) (MayNotStand lines line place)) (sym c.in-Entry.is)
    (entry_step lines place c.count_entry.new.self line c.in-Entry.field-0 c.count_entry.result place.shards_in place.begun_few c.requires.is_line (subst (λ (s : Line). Says line s) c.in-Entry.is c.requires.says) c.count_entry.ensures at)
