use Rattle.std.proofs.Common.{ap, sym, ◌∙◌}
use Rattle.std.specs.Prelude.{is_some}
use Rattle.example_chat_room.specs.declared.end.End.TheVariants as ends
use Rattle.example_chat_room.specs.Clients.{shown_client}
use Rattle.example_chat_room.specs.Talks.{told_by}
use Rattle.example_chat_room.proofs.TalkLemmas.{talk_wrote, talk_failed}
use Rattle.example_chat_room.proofs.client.Client.flush.Goals as goal

pub writes-preserved : goal.writes-preserved
writes-preserved g c =
    let view = shown_client {l = g.L.Link} c.writes.self in
    record {
      keeps = λ input said shown talk. talk_wrote view input said shown (c.writes.invariant.keeps input said shown talk) _ _ c.write.result c.bytes-in-writes.result.now c.in-Wrote.count c.take_off.new.self.bytes.items c.writes.invariant.goes (ap (told_by g.L.Link.tells) c.in-Some.is) c.bytes-in-writes.ensures c.write.ensures.writes.puts c.in-Wrote.is c.take_off.ensures;
      come = sym (ap is_some c.in-Some.is) ∙ c.writes.invariant.come;
      goes = c.writes.invariant.goes;
    }

pub returns-in-Failed-clause-keeps : goal.returns-in-Failed-clause-keeps
returns-in-Failed-clause-keeps g c =
    let view = shown_client {l = g.L.Link} c.writes.self in
    λ input said shown talk. talk_failed view input said shown (c.writes.invariant.keeps input said shown talk) _ _ c.write.result c.bytes-in-writes.result.now ends.Fault c.writes.invariant.goes (ap (told_by g.L.Link.tells) c.in-Some.is) c.bytes-in-writes.ensures c.write.ensures.writes.puts tt

pub returns-in-Memory-clause-keeps : goal.returns-in-Memory-clause-keeps
returns-in-Memory-clause-keeps g c =
    let view = shown_client {l = g.L.Link} c.writes.self in
    λ input said shown talk. talk_failed view input said shown (c.writes.invariant.keeps input said shown talk) _ _ c.write.result c.bytes-in-writes.result.now ends.Memory c.writes.invariant.goes (ap (told_by g.L.Link.tells) c.in-Some.is) c.bytes-in-writes.ensures c.write.ensures.writes.puts tt
