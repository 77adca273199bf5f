use Rattle.std.proofs.Common.{[], ◌∷◌, ◌++◌, arith}
use Rattle.sws_text.specs.Numbers.{space_number}
use Rattle.mely_check.proofs.ReadingLemmas.{space_ends, second_is, last_is, reg_behind}
use Rattle.mely_check.proofs.reading.read_reg.Goals as goal

pub returns-in_err-handler : goal.returns-in_err-handler
returns-in_err-handler c =
    rw c.from_residual-in_err-handler.ensures
    (λ colour event by fit is.
    let read = c.in_ok-colour.ensures in
    let handler = fit.1 in
    c.in_err-handler.ensures event.handler (space_number event.arg ++ (space_number by ++ 10 ∷ [])) (omega arith) space_ends
    (second_is c.args.text.now c.in_ok-colour.rest.now (space_number event.arg ++ (space_number by ++ 10 ∷ [])) c.in_ok-colour.colour colour.0 event.handler read.0 fit.0 read.1 read.2
    (reg_behind c.args.text.now colour event by is)))

pub returns-in_err-arg : goal.returns-in_err-arg
returns-in_err-arg c =
    rw c.from_residual-in_err-arg.ensures
    (λ colour event by fit is.
    let read = c.in_ok-colour.ensures in
    let next = c.in_ok-handler.ensures in
    let handler = fit.1 in
    c.in_err-arg.ensures event.arg by fit.2 fit.3
    (last_is c.in_ok-colour.rest.now c.in_ok-handler.rest.now (space_number event.arg ++ (space_number by ++ 10 ∷ [])) c.in_ok-handler.handler event.handler 255 next.0 (omega arith) (omega arith) next.1 space_ends next.2
    (second_is c.args.text.now c.in_ok-colour.rest.now (space_number event.arg ++ (space_number by ++ 10 ∷ [])) c.in_ok-colour.colour colour.0 event.handler read.0 fit.0 read.1 read.2
    (reg_behind c.args.text.now colour event by is))))
