use Rattle.std.proofs.Common.{length, refl, sym, ◌∙◌}
use Rattle.sws_conn.proofs.SearchLemmas.{searched-quiet}
use Rattle.sws_conn.proofs.buffer.Buffer.stays_quiet.Goals as goal

pub invariant_of-self : goal.invariant_of-self
invariant_of-self c =
    let buffer = c.self.inside in
    let lent = c.bytes-bytes.result.now in
    (searched-quiet buffer (record buffer { seen = length lent }) lent c.args.self.now c.bytes-bytes.ensures c.self.view_is c.self.invariant c.in-NotYet.is
    (c.is_quiet.ensures c.if-is_quiet.true) refl).0

pub returns-in-NotYet-clause-quiet : goal.returns-in-NotYet-clause-quiet
returns-in-NotYet-clause-quiet c is =
    let buffer = c.self.inside in
    let lent = c.bytes-bytes.result.now in
    sym (searched-quiet buffer (record buffer { seen = length lent }) lent c.args.self.now c.bytes-bytes.ensures c.self.view_is c.self.invariant c.in-NotYet.is
    (c.is_quiet.ensures c.if-is_quiet.true) refl).1 ∙ c.in-NotYet.is
