use Rattle.sws_conn.proofs.SearchLemmas.{search-at, searched-on, searched-quiet, searched-still, found-there}
use Rattle.sws_conn.proofs.buffer.Buffer.cut.Goals as goal
use Rattle.sws_conn.proofs.buffer.Buffer.cut.Goals.{in-Head, in-NotYet, in-NotYet-2}

pub search-cut-requires : goal.search-cut-requires
search-cut-requires c =
    let buffer = c.self.inside in
    search-at buffer.scan buffer.seen buffer.window c.bytes-bytes.result.now c.bytes-bytes.ensures buffer.cut c.in-NotYet-2.is c.self.invariant

pub invariant_of-self : goal.invariant_of-self
invariant_of-self c =
    let buffer = c.self.inside in
    let after = c.match-self.self-inside in
    let old = c.args.self.now in
    let lent = c.bytes-bytes.result.now in
    elim c.match-self.branch [
      | in-Head w ↦ (searched-still buffer after old c.self.view_is c.self.invariant (found-there buffer.cut w.in-Head.is) w.self-inside-is).0
      | in-NotYet w ↦ (searched-quiet buffer after lent old c.bytes-bytes.ensures c.self.view_is c.self.invariant w.in-NotYet.is
          (w.is_quiet.ensures w.if-is_quiet.true) w.self-inside-is).0
      | in-NotYet-2 w ↦ (searched-on buffer after lent old w.search-cut.result.0 w.search-cut.result.1 c.bytes-bytes.ensures c.self.view_is
          w.search-cut.ensures w.self-inside-is).0
    ]

pub returns-clause-cut : goal.returns-clause-cut
returns-clause-cut c =
    let buffer = c.self.inside in
    let after = c.match-self.self-inside in
    let old = c.args.self.now in
    let lent = c.bytes-bytes.result.now in
    elim c.match-self.branch [
      | in-Head w ↦ (searched-still buffer after old c.self.view_is c.self.invariant (found-there buffer.cut w.in-Head.is) w.self-inside-is).1
      | in-NotYet w ↦ (searched-quiet buffer after lent old c.bytes-bytes.ensures c.self.view_is c.self.invariant w.in-NotYet.is
          (w.is_quiet.ensures w.if-is_quiet.true) w.self-inside-is).1
      | in-NotYet-2 w ↦ (searched-on buffer after lent old w.search-cut.result.0 w.search-cut.result.1 c.bytes-bytes.ensures c.self.view_is
          w.search-cut.ensures w.self-inside-is).1
    ]
