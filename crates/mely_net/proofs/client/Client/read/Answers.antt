use Rattle.std.proofs.Common.{◌++◌, true, refl, sym, ap, ◌∙◌, subst, inl, inr}
use Rattle.std.proofs.lemmas.List.{append-nil}
use Rattle.std.specs.Prelude.{is_some}
use Rattle.sws_link.specs.Links.{given_by}
use Rattle.mely_net.specs.declared.end.End.TheVariants as ends
use Rattle.mely_net.specs.Clients.{Reads, ToldRead, shown_client}
use Rattle.mely_net.specs.Talks.{told_by}
use Rattle.mely_net.proofs.MoveLemmas.{told_ended, told_read, reads_more, reads_end, on_ok}
use Rattle.mely_net.proofs.client.Client.read.Goals as goal
use Rattle.mely_net.proofs.client.Client.read.Goals.{in-Took+then-is_err, in-Took+else-is_err, in-End, in-Failed}

pub returns-in-NotReady-clause-reads : goal.returns-in-NotReady-clause-reads
returns-in-NotReady-clause-reads g c =
    let view = shown_client {l = g.L.Link} c.args.self.now in
    let has = sym (ap is_some c.in-Some.is) in
    let told = subst (λ link. ToldRead (given_by c.read.result c.read.new.into) (told_by g.L.Link.tells link) (g.L.Link.tells c.read.new.self)) (sym c.in-Some.is) (told_read _ _ _ _ _ c.read.ensures.reads.takes) in
    reads_more view true has _ (given_by c.read.result c.read.new.into) view.inbox told c.requires (sym (ap (λ answer. view.inbox ++ given_by answer c.read.new.into) c.in-NotReady.is ∙ append-nil view.inbox))

pub returns-clause-reads : goal.returns-clause-reads
returns-clause-reads g c =
    let view = shown_client {l = g.L.Link} c.args.self.now in
    let has = sym (ap is_some c.in-Some.is) in
    let came = given_by c.read.result c.read.new.into in
    let goes = c.requires in
    let told = subst (λ link. ToldRead (given_by c.read.result c.read.new.into) (told_by g.L.Link.tells link) (g.L.Link.tells c.read.new.self)) (sym c.in-Some.is) (told_read _ _ _ _ _ c.read.ensures.reads.takes) in
    elim c.match-read.branch [
      | in-Took+then-is_err w ↦ subst (Reads view) (sym (ap (shown_client {l = g.L.Link}) w.self-is ∙ w.leave.ensures)) (reads_end view true has _ came w.add.new.self told ends.Memory goes (inl tt) (λ e. absurd (let never : ⊥ = cc e in never)))
      | in-Took+else-is_err w ↦ subst (Reads view) (sym (ap (shown_client {l = g.L.Link}) w.self-is)) (reads_more view true has _ came w.add.new.self told goes (on_ok w.add.result _ w.add.ensures (sym w.is_err.ensures.value ∙ w.if-is_err.false) ∙ ap (λ answer. view.inbox ++ given_by answer c.read.new.into) (sym w.in-Took.is)))
      | in-End w ↦ subst (Reads view) (sym (ap (shown_client {l = g.L.Link}) w.self-is ∙ w.leave-in-End.ensures)) (reads_end view true has _ came view.inbox told ends.Left goes (inr refl) (λ _. (ap (λ answer. given_by answer c.read.new.into) w.in-End.is, told_ended _ _ _ _ _ c.read.ensures.reads.takes w.in-End.is)))
      | in-Failed w ↦ subst (Reads view) (sym (ap (shown_client {l = g.L.Link}) w.self-is ∙ w.leave-in-Failed.ensures)) (reads_end view true has _ came view.inbox told ends.Fault goes (inl tt) (λ e. absurd (let never : ⊥ = cc e in never)))
    ]
