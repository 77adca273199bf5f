use Rattle.std.proofs.Common.{map, string_bytes}
use Rattle.std.proofs.lemmas.Result.{err_from_is_err_and}
use Rattle.clap.specs.Words.{app_of, found_of}
use Rattle.sws_words.specs.Told.{told_shape}
use Rattle.sws_words.proofs.CommandLemmas.{check_is}
use Rattle.sws_words.proofs.FromFoundLemmas.{check_complete, check_refused, of_any_fault, check_lacks_connections, check_lacks_shape}
use Rattle.sws_words.proofs.reading.read_check.Goals as goal

pub parsed-requires : goal.parsed-requires
parsed-requires c = check_is (app_of c.in_ok-command.command) c.in_ok-command.ensures

pub returns-in_err-matches-clause-refused : goal.returns-in_err-matches-clause-refused
returns-in_err-matches-clause-refused c =
    let p = err_from_is_err_and c.from_residual-in_err-matches.result c.from_residual-in_err-matches.ensures.1 in
    rw (p.1, p.2) (λ usage. check_refused (app_of c.in_ok-command.command) (map string_bytes c.args.words.now) c.in_ok-command.ensures c.requires (c.in_err-matches.ensures.refused usage))

pub returns-in_err-connections-clause-refused : goal.returns-in_err-connections-clause-refused
returns-in_err-connections-clause-refused c =
    of_any_fault c.from_residual-in_err-connections.result (check_lacks_connections (app_of c.in_ok-command.command) (map string_bytes c.args.words.now) (found_of c.in_ok-matches.matches)
    c.in_ok-command.ensures c.requires c.in_ok-matches.ensures.taken c.in_ok-matches.ensures.rows c.in_err-connections.ensures.refused)

pub returns-in_err-shape-clause-refused : goal.returns-in_err-shape-clause-refused
returns-in_err-shape-clause-refused c =
    of_any_fault c.from_residual-in_err-shape.result (check_lacks_shape (app_of c.in_ok-command.command) (map string_bytes c.args.words.now) (found_of c.in_ok-matches.matches)
    c.in_ok-command.ensures c.requires c.in_ok-matches.ensures.taken c.in_ok-matches.ensures.rows c.in_err-shape.ensures.refused)

pub returns-clause-read : goal.returns-clause-read
returns-clause-read c =
    check_complete (app_of c.in_ok-command.command) (map string_bytes c.args.words.now) (found_of c.in_ok-matches.matches) c.get_flag-log.result c.in_ok-connections.connections (told_shape c.in_ok-shape.shape)
    c.in_ok-command.ensures c.requires c.in_ok-matches.ensures.taken c.in_ok-matches.ensures.rows c.get_flag-log.ensures.value c.get_flag-log.ensures.other
    c.in_ok-connections.ensures.read c.in_ok-shape.ensures.read
