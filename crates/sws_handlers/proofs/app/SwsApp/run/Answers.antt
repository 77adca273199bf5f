use Rattle.std.proofs.Common.{refl, sym, ◌∙◌}
use Rattle.sws_handlers.proofs.Events.StateKeptLemmas.{seat_back, fit_of, desk_of, accept_of, seat_of, desk_after, puts_of, told_puts_of, first_total, accept_after_of, seat_after_of}
use Rattle.sws_handlers.proofs.app.SwsApp.run.Goals as goal

-- ---- colour 0

pub invariant_of-state : goal.invariant_of-state
invariant_of-state g c =
    let fit = fit_of g.W.World g.W.Link.Link g.T.Talk _ _ c.args.event c.args.load c.state.view_is c.requires.fits in
    let stands = desk_of g.W.World g.W.Link.Link g.T.Talk _ _ _ _ _ _ _ (sym c.deref_mut.ensures.value ∙ c.in-Polling.is) c.state.invariant in
    (stands.0, (desk_after g.W.World g.W.Link.Link _ _ c.args.event c.args.load _ _ _ stands.0 stands.1 fit.0 c.run_desk.ensures.runs c.run_desk.ensures.room).0)

pub returns-in-Polling-clause-puts : goal.returns-in-Polling-clause-puts
returns-in-Polling-clause-puts g c =
    let fit = fit_of g.W.World g.W.Link.Link g.T.Talk _ _ c.args.event c.args.load c.state.view_is c.requires.fits in
    let stands = desk_of g.W.World g.W.Link.Link g.T.Talk _ _ _ _ _ _ _ (sym c.deref_mut.ensures.value ∙ c.in-Polling.is) c.state.invariant in
    let after = desk_after g.W.World g.W.Link.Link _ _ c.args.event c.args.load _ _ _ stands.0 stands.1 fit.0 c.run_desk.ensures.runs c.run_desk.ensures.room in
    (puts_of g.W.World g.W.Link.Link g.T.Talk _ _ c.args.self.now.total c.args.self.now.log _ _ c.state.view_is c.requires.serves refl after.1).0

pub returns-in-Polling-clause-few : goal.returns-in-Polling-clause-few
returns-in-Polling-clause-few g c =
    let fit = fit_of g.W.World g.W.Link.Link g.T.Talk _ _ c.args.event c.args.load c.state.view_is c.requires.fits in
    let stands = desk_of g.W.World g.W.Link.Link g.T.Talk _ _ _ _ _ _ _ (sym c.deref_mut.ensures.value ∙ c.in-Polling.is) c.state.invariant in
    (desk_after g.W.World g.W.Link.Link _ _ c.args.event c.args.load _ _ _ stands.0 stands.1 fit.0 c.run_desk.ensures.runs c.run_desk.ensures.room).1.1

-- ---- colour 1

pub returns-in-Accepting-clause-puts : goal.returns-in-Accepting-clause-puts
returns-in-Accepting-clause-puts g c =
    let fit = fit_of g.W.World g.W.Link.Link g.T.Talk _ _ c.args.event c.args.load c.state.view_is c.requires.fits in
    let one = accept_of g.W.World g.W.Link.Link g.T.Talk _ _ _ _ _ _ (sym c.deref_mut.ensures.value ∙ c.in-Accepting.is) c.state.invariant in
    let total = first_total g.W.World _ _ c.args.self.now.total c.state.view_is c.requires.serves in
    let after = accept_after_of g.W.World g.W.Link.Link _ c.args.self.now.total total _ c.args.event c.args.load _ one fit.0 c.run_accepting.ensures.runs in
    (puts_of g.W.World g.W.Link.Link g.T.Talk _ _ c.args.self.now.total c.args.self.now.log _ _ c.state.view_is c.requires.serves refl after).0

-- ---- a connection

pub invariant_of-state-in-Talking : goal.invariant_of-state-in-Talking
invariant_of-state-in-Talking g c =
    let fit = fit_of g.W.World g.W.Link.Link g.T.Talk _ _ c.args.event c.args.load c.state.view_is c.requires.fits in
    let stands = seat_of g.W.World g.W.Link.Link g.T.Talk _ _ _ _ _ _ _ (sym c.deref_mut.ensures.value ∙ c.in-Talking.is) c.state.invariant in
    let total = first_total g.W.World _ _ c.args.self.now.total c.state.view_is c.requires.serves in
    let after = seat_after_of g.W.World g.W.Link.Link _ c.args.self.now.total total g.T.Talk _ _ c.args.event c.args.load _ _ _ _ c.args.self.now.log stands.0 stands.1 fit.0 c.serve.ensures.runs c.serve.ensures.next c.serve.ensures.answered c.serve.ensures.lines c.serve.ensures.once in
    seat_back g.W.World g.W.Link.Link g.T.Talk _ _ _ _ _ c.state.inside.lines.came c.args.event _ c.push.ensures stands.0 after.0

pub returns-in-Talking-clause-puts : goal.returns-in-Talking-clause-puts
returns-in-Talking-clause-puts g c =
    let fit = fit_of g.W.World g.W.Link.Link g.T.Talk _ _ c.args.event c.args.load c.state.view_is c.requires.fits in
    let stands = seat_of g.W.World g.W.Link.Link g.T.Talk _ _ _ _ _ _ _ (sym c.deref_mut.ensures.value ∙ c.in-Talking.is) c.state.invariant in
    let total = first_total g.W.World _ _ c.args.self.now.total c.state.view_is c.requires.serves in
    let after = seat_after_of g.W.World g.W.Link.Link _ c.args.self.now.total total g.T.Talk _ _ c.args.event c.args.load _ _ _ _ c.args.self.now.log stands.0 stands.1 fit.0 c.serve.ensures.runs c.serve.ensures.next c.serve.ensures.answered c.serve.ensures.lines c.serve.ensures.once in
    (told_puts_of g.W.World g.W.Link.Link g.T.Talk _ _ c.args.self.now.total c.args.self.now.log _ _ c.state.view_is c.requires.serves refl after.1).0
