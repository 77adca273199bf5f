use Rattle.std.proofs.Common.{rules, ◌≡◌, ◌++◌, true, take, drop, sym, ap, ◌∙◌, append_assoc}
use Rattle.std.specs.Prelude.{not}
use Rattle.sws_text.specs.Texts.{sign_before}
use Rattle.sws_text.specs.Shown.{margin, shown_sign, remaining_lines}
use Rattle.sws_text.proofs.SignLemmas.{found_at}
use Rattle.sws_text.proofs.ShownLemmas.{remaining_lines-sign}
use Rattle.sws_text.proofs.PlainLemmas.{behind, remaining_lines-front}
use Rattle.sws_text.proofs.showing.ShownLines.push_next.Goals as goal

pub returns-clause-moves : goal.returns-clause-moves
returns-clause-moves c =
    let found : sign_before c.self.inside.rest.now ≡ found_at c.in-Some.sign c.in-Some.rest.now = search rules in
    let step = remaining_lines-sign c.self.inside.in_line c.self.inside.rest.now c.in-Some.sign c.in-Some.rest.now found in
    ap (λ t. t ++ remaining_lines (not c.ends_line.result) c.in-Some.rest.now) c.in_ok-push_shown_sign.ensures
    ∙ append_assoc c.args.text.now.items (shown_sign c.self.inside.in_line c.in-Some.sign) (remaining_lines (not c.ends_line.result) c.in-Some.rest.now)
    ∙ ap (λ e. c.args.text.now.items ++ (shown_sign c.self.inside.in_line c.in-Some.sign ++ remaining_lines (not e) c.in-Some.rest.now)) c.ends_line.ensures
    ∙ ap (λ t. c.args.text.now.items ++ t) (sym step ∙ c.self.view_is)

pub returns-then-count-gt0-clause-moves : goal.returns-then-count-gt0-clause-moves
returns-then-count-gt0-clause-moves c =
    let front = remaining_lines-front c.self.inside.in_line c.self.inside.rest.now c.plain_front-count.result c.plain_front-count.ensures.there c.if-count-gt0.true c.plain_front-count.ensures.plain in
    let pushed : c.push_run.new.text.items ≡ c.args.text.now.items ++ (margin c.self.inside.in_line ++ take c.plain_front-count.result c.self.inside.rest.now) = search rules in
    ap (λ b. c.push_run.new.text.items ++ remaining_lines true b) (behind c.self.inside.rest.now c.plain_front-count.result)
    ∙ ap (λ t. t ++ remaining_lines true (drop c.plain_front-count.result c.self.inside.rest.now)) pushed
    ∙ append_assoc c.args.text.now.items (margin c.self.inside.in_line ++ take c.plain_front-count.result c.self.inside.rest.now)
    (remaining_lines true (drop c.plain_front-count.result c.self.inside.rest.now))
    ∙ ap (λ t. c.args.text.now.items ++ t) (sym front ∙ c.self.view_is)
