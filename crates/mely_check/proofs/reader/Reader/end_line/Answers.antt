use Rattle.std.proofs.Common.{refl, subst, ℕ, List}
use Rattle.std.specs.Prelude.{MatchOption}
use Rattle.mely_check.specs.Walks.{MayStand, MayNotStand}
use Rattle.mely_check.specs.Hearing.{with_line}
use Rattle.mely_check.specs.Judges.{HearsLine}
use Rattle.mely_check.proofs.ReaderLemmas.{heard_line, nothing_said, on_ok}
use Rattle.mely_check.proofs.reader.Reader.end_line.Goals as goal

pub returns-in_default-clause-goes : goal.returns-in_default-clause-goes
returns-in_default-clause-goes g c = λ lines at.
    let place = c.args.self.now.place in
    let line = c.args.self.now.line.items in (
      refl,
      nothing_said (MayNotStand lines line place) (MayStand lines line place at c.step.new.self) c.step.result c.in_default.not-Some
          (subst (λ (l : List ℕ). MatchOption c.step.result (MayNotStand lines l place) (MayStand lines l place at c.step.new.self)) c.deref.ensures.value (c.step.ensures.stands lines at)),
    )

pub returns-clause-goes : goal.returns-clause-goes
returns-clause-goes g c = λ lines at. (rw c.deref.ensures.value at c.in-Some.ensures.stands lines at).next

pub returns-clause-hears : goal.returns-clause-hears
returns-clause-hears g c = λ setup lines heard.
    let place = c.args.self.now.place in
    heard_line (λ walk. g.L.Listener.Heard walk c.args.listener.now) (λ walk. g.L.Listener.Heard walk c.hear.new.self) setup lines c.args.self.now.line.items place c.step.new.self c.in-Some.said c.args.self.now.judge c.hear_line.new.self heard
    (subst (λ (l : List ℕ). MayStand lines l place heard.at c.step.new.self c.in-Some.said) c.deref.ensures.value (c.in-Some.ensures.stands lines heard.at))
    (on_ok (HearsLine c.args.self.now.judge c.step.new.self.begun place.number c.in-Some.said c.hear_line.new.self) c.hear_line.result c.if-is_err.ensures.value c.hear_line.ensures)
    (λ walk may told. on_ok (g.L.Listener.Heard (with_line walk c.in-Some.said) c.hear.new.self) c.hear.result c.if-is_err-2.ensures.value (c.hear.ensures.heard walk may told))
