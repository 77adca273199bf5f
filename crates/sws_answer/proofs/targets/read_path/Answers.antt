use Rattle.std.proofs.Common.{◌≡◌, ◌<◌, ◌∷◌, false, length, sym, subst, ◌∙◌}
use Rattle.std.specs.Prelude.{◌&&◌, nat_le}
use Rattle.sws_request.specs.Head.{head_limit}
use Rattle.sws_answer.proofs.TargetLemmas.{path_read-as_sent, path_read-without, removes-short, removes-long, removes-none}
use Rattle.sws_answer.proofs.targets.read_path.Goals as goal
use Rattle.sws_answer.proofs.targets.read_path.Goals.{else-options-via-then-options+else-path-lt-MAX_HEAD, else-options-via-else-options}

pub returns-then-path-lt-MAX_HEAD-clause-read : goal.returns-then-path-lt-MAX_HEAD-clause-read
returns-then-path-lt-MAX_HEAD-clause-read c = λ done. c.decode_without_dots.ensures
    ∙ sym (path_read-without c.args.options.now c.args.path.now
    (removes-short c.args.options.now.removes_dot_segments c.args.path.now c.if-options.true c.if-path-lt-MAX_HEAD.true))

-- the dot segments stay
as_sent : (c : goal.After-decode) → (c.args.options.now.removes_dot_segments && nat_le (length (47 ∷ c.args.path.now)) head_limit) ≡ false
as_sent c = elim c.else-options.branch [ else-options-via-then-options+else-path-lt-MAX_HEAD w ↦ removes-long c.args.options.now.removes_dot_segments c.args.path.now w.if-options.true w.if-path-lt-MAX_HEAD.false | else-options-via-else-options w ↦ removes-none c.args.options.now.removes_dot_segments c.args.path.now w.if-options.false ]

pub returns-clause-read : goal.returns-clause-read
returns-clause-read c = λ done. c.decode.ensures.decoded done ∙ sym (path_read-as_sent c.args.options.now c.args.path.now (as_sent c))

pub returns-clause-outgrown : goal.returns-clause-outgrown
returns-clause-outgrown c = λ full.
    subst (λ bytes. 8202 < length bytes) (sym (path_read-as_sent c.args.options.now c.args.path.now (as_sent c))) (c.decode.ensures.outgrown full)
