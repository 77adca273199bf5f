use Rattle.std.proofs.Common.{◌++◌, true, take, drop, sym, ap, ◌∙◌, subst}
use Rattle.std.proofs.lemmas.List.{take-append-drop}
use Rattle.std.specs.Prelude.{is_some}
use Rattle.sws_link.specs.Links.{IsWritten}
use Rattle.mely_net.specs.declared.end.End.TheVariants as ends
use Rattle.mely_net.specs.Clients.{ToldWrote, Writes, shown_client}
use Rattle.mely_net.specs.Talks.{told_by}
use Rattle.mely_net.proofs.MoveLemmas.{told_wrote, writes_more, writes_end}
use Rattle.mely_net.proofs.client.Client.flush.Goals as goal

pub writes-preserved : goal.writes-preserved
writes-preserved g c =
    let view = shown_client {l = g.L.Link} c.writes.self in
    let has = sym (ap is_some c.in-Some.is) in
    let wrote = told_wrote _ _ c.write.result _ c.write.ensures.writes.puts in
    let told = subst (λ link. ToldWrote wrote.0 (told_by g.L.Link.tells link) (g.L.Link.tells c.write.new.self)) (sym c.in-Some.is) wrote.2 in
    let goes = c.writes.invariant.goes_on in
    let front = subst (λ answer. IsWritten answer c.bytes-in-writes.result.now wrote.0) c.in-Wrote.is wrote.1 in
    let parts = sym (take-append-drop c.in-Wrote.count view.outbox) ∙ ap (λ l. l ++ drop c.in-Wrote.count view.outbox) (sym (front ∙ ap (take c.in-Wrote.count) c.bytes-in-writes.ensures)) ∙ ap (λ l. wrote.0 ++ l) (sym c.take_off.ensures) in
    record { writes = writes_more _ view c.writes.invariant.writes goes true has _ wrote.0 c.take_off.new.self parts told; goes_on = goes }

pub returns-in-Failed-clause-writes : goal.returns-in-Failed-clause-writes
returns-in-Failed-clause-writes g c =
    let view = shown_client {l = g.L.Link} c.writes.self in
    let has = sym (ap is_some c.in-Some.is) in
    let wrote = told_wrote _ _ c.write.result _ c.write.ensures.writes.puts in
    let told = subst (λ link. ToldWrote wrote.0 (told_by g.L.Link.tells link) (g.L.Link.tells c.write.new.self)) (sym c.in-Some.is) wrote.2 in
    let goes = c.writes.invariant.goes_on in
    let front = subst (λ answer. IsWritten answer c.bytes-in-writes.result.now wrote.0) c.in-Failed.is wrote.1 in
    subst (Writes _) (sym c.leave.ensures) (writes_end _ view c.writes.invariant.writes goes true has _ wrote.0 front.0 (sym c.bytes-in-writes.ensures ∙ front.1) told ends.Fault tt)

pub returns-in-Memory-clause-writes : goal.returns-in-Memory-clause-writes
returns-in-Memory-clause-writes g c =
    let view = shown_client {l = g.L.Link} c.writes.self in
    let has = sym (ap is_some c.in-Some.is) in
    let wrote = told_wrote _ _ c.write.result _ c.write.ensures.writes.puts in
    let told = subst (λ link. ToldWrote wrote.0 (told_by g.L.Link.tells link) (g.L.Link.tells c.write.new.self)) (sym c.in-Some.is) wrote.2 in
    let goes = c.writes.invariant.goes_on in
    let front = subst (λ answer. IsWritten answer c.bytes-in-writes.result.now wrote.0) c.in-Memory.is wrote.1 in
    subst (Writes _) (sym c.leave-in-Memory.ensures) (writes_end _ view c.writes.invariant.writes goes true has _ wrote.0 front.0 (sym c.bytes-in-writes.ensures ∙ front.1) told ends.Memory tt)
