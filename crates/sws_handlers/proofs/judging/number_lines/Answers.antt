use Rattle.std.proofs.Common.{◌≡◌, ◌<◌, ◌≤◌, ◌+◌, ℕ, List, Option, None, length, take, refl, sym, ap, ◌∙◌, subst, arith}
use Rattle.std.proofs.Math.ListN.{get_or}
use Rattle.std.proofs.lemmas.List.{length-set}
use Rattle.std.proofs.lemmas.Option.{slice_get_read}
use Rattle.std.specs.Prelude.{slice_set}
use Rattle.sws_handlers.specs.LogTurns.{AreLastTurns, next_turn}
use Rattle.sws_handlers.proofs.Ends.LogTurnsLemmas.{counts_next, passes_next}
use Rattle.sws_handlers.proofs.judging.number_lines.Goals as goal
use Rattle.sws_handlers.proofs.judging.number_lines.Goals.{then-conn-turns, else-conn-turns}

pub loop-line-preserved : goal.loop-line-preserved
loop-line-preserved c =
    let lines = c.args.lines.now in
    let line = c.line-item.result in
    let index = c.loop-line.line-index in
    let turns = c.loop-line.turns in
    let at = slice_get_read lines (length lines) index line refl c.loop-line-test.true c.line-item.is in
    let conn : c.from-conn.result ≡ line.conn = c.from-conn.ensures in
    elim c.if-conn-turns.branch [
      | then-conn-turns w ↦
          let within : line.conn < length turns = subst (λ (n : ℕ). n < length turns) conn w.if-conn-turns.true in
          let is : c.if-conn-turns.turns ≡ slice_set turns line.conn (next_turn (get_or turns line.conn None) line.turn) =
          w.turns-is ∙ ap (λ (o : Option ℕ). slice_set turns c.from-conn.result o) w.next_turn.ensures
          ∙ ap (λ (n : ℕ). slice_set turns n (next_turn (get_or turns n None) line.turn)) conn in (
            subst (λ (ts : List (Option ℕ)). AreLastTurns (take (index + 1) lines) ts) (sym is) (counts_next lines index line turns at within c.loop-line.invariant.0),
            ap (λ (ts : List (Option ℕ)). length ts) is ∙ length-set turns line.conn (next_turn (get_or turns line.conn None) line.turn) ∙ c.loop-line.invariant.1,
          )
      | else-conn-turns w ↦
          let beyond : length turns ≤ line.conn = let not_below = w.if-conn-turns.false in omega (arith, not_below, conn) in (
            subst (λ (ts : List (Option ℕ)). AreLastTurns (take (index + 1) lines) ts) (sym w.turns-is) (passes_next lines index line turns at beyond c.loop-line.invariant.0),
            ap (λ (ts : List (Option ℕ)). length ts) w.turns-is ∙ c.loop-line.invariant.1,
          )
    ]
