use Rattle.std.specs.Prelude.{◌&&◌, not}
use Rattle.std.proofs.Common.{◌≡◌, ℕ, Bool, List, [], ◌++◌, Option, Some, length, sym, ap, ◌∙◌, subst, arith}
use Rattle.std.proofs.lemmas.List.{length-replicate}
use Rattle.sws_handlers.specs.declared.ended.Served.{Served}
use Rattle.sws_handlers.specs.Conclusion.{ran_all, is_whole}
use Rattle.sws_handlers.specs.LogTurns.{AreLastTurns}
use Rattle.sws_handlers.specs.RunLeaves.{VerdictIs, lines_kept, talkers}
use Rattle.sws_handlers.proofs.Ends.ConcludeLemmas.{concluded}
use Rattle.sws_handlers.proofs.Ends.HandingLemmas.{handed_many}
use Rattle.sws_handlers.proofs.Ends.LogTurnsLemmas.{counts_none}
use Rattle.sws_handlers.proofs.concluding.conclude.Goals as goal
use Rattle.sws_handlers.proofs.concluding.conclude.Goals.{then-ran, else-ran}

pub returns-clause-concluded : goal.returns-clause-concluded
returns-clause-concluded g c =
    let line_lost = c.into_kept-lines.result.1 in
    let both : c.if-ran.judge ≡ c.ran_all-ran.result && not line_lost =
    elim c.if-ran.branch [
      | then-ran w ↦ w.judge-is ∙ ap (λ (b : Bool). b && not line_lost) (sym w.if-ran.true)
      | else-ran w ↦ w.judge-is ∙ w.if-ran.false ∙ ap (λ (b : Bool). b && not line_lost) (sym w.if-ran.false)
    ] in
    let whole : c.if-ran.judge ≡ is_whole c.args.drained c.args.parts.lost.items c.keep_lost.new.left.log =
    both ∙ ap (λ (b : Bool). b && not line_lost) (c.ran_all-ran.ensures ∙ ap (ran_all c.args.drained) c.deref.ensures.value)
    ∙ ap (λ (b : Bool). ran_all c.args.drained c.args.parts.lost.items && not b) c.into_kept-lines.ensures.lost in
    let lines = subst (λ lines. VerdictIs (lines_kept c.args.log lines) c.deref-3.result.now c.if-ran.judge c.args.total c.is_some.result c.split_world-world.result.1 c.split_world-world.result.2 c.judge-verdict.result) c.deref-2.ensures.value c.judge-verdict.ensures in
    let told = subst (λ served. VerdictIs (lines_kept c.args.log c.into_kept-lines.result.0.items) served c.if-ran.judge c.args.total c.is_some.result c.split_world-world.result.1 c.split_world-world.result.2 c.judge-verdict.result) c.deref-3.ensures.value lines in
    concluded g.T.Talk c.args.total c.args.log c.args.drained c.args.parts c.args.room c.keep_states.new.left c.keep_queued.new.left c.keep_lost.new.left _ _ _ c.if-ran.judge c.is_some.result c.into_kept-lines.result.0 _ c.requires.room.none_served c.requires.room.no_trail c.requires.room.no_line
    c.keep_states.ensures.keeps c.keep_queued.ensures c.keep_lost.ensures c.split_world-world.ensures.world c.split_world-world.ensures.accepted c.split_world-world.ensures.failed c.into_kept-lines.ensures.kept whole c.is_some.ensures told

pub judge-verdict-requires-clause-counted : goal.judge-verdict-requires-clause-counted
judge-verdict-requires-clause-counted g c =
    subst (λ (turns : List (Option ℕ)). AreLastTurns [] turns) (sym (c.deref_mut.ensures.value ∙ c.requires.room.turns)) (counts_none c.args.total)

pub judge-verdict-requires-clause-there : goal.judge-verdict-requires-clause-there
judge-verdict-requires-clause-there g c =
    let added = c.keep_states.ensures.keeps.added in
    let many : length c.deref-3.result.now ≡ length added =
    ap (λ (l : List (Served g.row.W-Link.Denot)). length l) c.deref-3.ensures.value
    ∙ handed_many _ c.keep_queued.new.left c.keep_lost.new.left c.keep_lost.ensures ∙ handed_many _ c.keep_states.new.left c.keep_queued.new.left c.keep_queued.ensures
    ∙ ap (λ (l : List (Served g.row.W-Link.Denot)). length l) (c.keep_states.ensures.keeps.served ∙ ap (λ (l : List (Served g.row.W-Link.Denot)). l ++ added) c.requires.room.none_served) in
    let shown : length added ≡ length (talkers c.args.parts.states.items) = c.keep_states.ensures.keeps.shows.many in
    let turns : length c.deref_mut.result.now ≡ c.args.total =
    ap (λ (l : List (Option ℕ)). length l) (c.deref_mut.ensures.value ∙ c.requires.room.turns) ∙ length-replicate c.args.total (Some 0) in
    let few = c.requires.seats in
    omega (arith, many, shown, turns, few)
