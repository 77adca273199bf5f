use Rattle.std.proofs.Common.{map, string_bytes, sym, ◌∙◌}
use Rattle.std.proofs.lemmas.Result.{err_from_is_err_and}
use Rattle.clap.specs.Words.{app_of, found_of}
use Rattle.sws_words.specs.Told.{told_shape}
use Rattle.sws_words.proofs.CommandLemmas.{gopher_is}
use Rattle.sws_words.proofs.FromFoundLemmas.{gopher_asks_both, gopher_complete, gopher_refused, of_any_fault, gopher_lacks_folder, gopher_lacks_host, gopher_lacks_port, gopher_lacks_connections, gopher_lacks_shape}
use Rattle.sws_words.proofs.reading.read_gopher.Goals as goal

pub parsed-requires : goal.parsed-requires
parsed-requires c = gopher_is (app_of c.in_ok-command.command) c.in_ok-command.ensures

pub returns-in_err-matches-clause-refused : goal.returns-in_err-matches-clause-refused
returns-in_err-matches-clause-refused c =
    let p = err_from_is_err_and c.from_residual-in_err-matches.result c.from_residual-in_err-matches.ensures.1 in
    rw (p.1, p.2) (λ usage. gopher_refused (app_of c.in_ok-command.command) (map string_bytes c.args.words.now) c.in_ok-command.ensures c.requires (c.in_err-matches.ensures.refused usage))

pub returns-in_err-folder-clause-refused : goal.returns-in_err-folder-clause-refused
returns-in_err-folder-clause-refused c =
    let p = err_from_is_err_and c.from_residual-in_err-folder.result c.from_residual-in_err-folder.ensures.1 in
    rw (p.1, p.2) (λ usage. gopher_lacks_folder (app_of c.in_ok-command.command) (map string_bytes c.args.words.now) (found_of c.in_ok-matches.matches) c.in_ok-command.ensures c.requires c.in_ok-matches.ensures.taken c.in_ok-matches.ensures.rows (c.in_err-folder.ensures.refused usage))

pub returns-in_err-host-clause-refused : goal.returns-in_err-host-clause-refused
returns-in_err-host-clause-refused c =
    let p = err_from_is_err_and c.from_residual-in_err-host.result c.from_residual-in_err-host.ensures.1 in
    rw (p.1, p.2) (λ usage. gopher_lacks_host (app_of c.in_ok-command.command) (map string_bytes c.args.words.now) (found_of c.in_ok-matches.matches) c.in_ok-command.ensures c.requires c.in_ok-matches.ensures.taken c.in_ok-matches.ensures.rows (c.in_err-host.ensures.refused usage))

pub returns-in_err-port-clause-refused : goal.returns-in_err-port-clause-refused
returns-in_err-port-clause-refused c =
    of_any_fault c.from_residual-in_err-port.result (gopher_lacks_port (app_of c.in_ok-command.command) (map string_bytes c.args.words.now) (found_of c.in_ok-matches.matches) c.in_ok-command.ensures c.requires c.in_ok-matches.ensures.taken c.in_ok-matches.ensures.rows c.in_err-port.ensures.refused)

pub returns-in_err-connections-clause-refused : goal.returns-in_err-connections-clause-refused
returns-in_err-connections-clause-refused c =
    of_any_fault c.from_residual-in_err-connections.result (gopher_lacks_connections (app_of c.in_ok-command.command) (map string_bytes c.args.words.now) (found_of c.in_ok-matches.matches) c.in_ok-command.ensures c.requires c.in_ok-matches.ensures.taken c.in_ok-matches.ensures.rows c.in_err-connections.ensures.refused)

pub returns-in_err-shape-clause-refused : goal.returns-in_err-shape-clause-refused
returns-in_err-shape-clause-refused c =
    of_any_fault c.from_residual-in_err-shape.result (gopher_lacks_shape (app_of c.in_ok-command.command) (map string_bytes c.args.words.now) (found_of c.in_ok-matches.matches) c.in_ok-command.ensures c.requires c.in_ok-matches.ensures.taken c.in_ok-matches.ensures.rows c.in_err-shape.ensures.refused)

pub returns-then-asks_for_both-clause-refused : goal.returns-then-asks_for_both-clause-refused
returns-then-asks_for_both-clause-refused c =
    λ _. gopher_asks_both (app_of c.in_ok-command.command) (map string_bytes c.args.words.now) (found_of c.in_ok-matches.matches) c.in_ok-command.ensures c.requires c.in_ok-matches.ensures.taken c.in_ok-matches.ensures.rows c.get_flag-journal.result (string_bytes c.in_ok-folder.folder) (string_bytes c.in_ok-host.host) c.in_ok-port.port c.in_ok-connections.connections (told_shape c.in_ok-shape.shape)
    c.get_flag-journal.ensures.value c.get_flag-journal.ensures.other c.in_ok-folder.ensures.read c.in_ok-host.ensures.read c.in_ok-port.ensures.read c.in_ok-connections.ensures.read c.in_ok-shape.ensures.read
    (sym c.asks_for_both.ensures ∙ c.if-asks_for_both.true)

pub returns-clause-read : goal.returns-clause-read
returns-clause-read c =
    gopher_complete (app_of c.in_ok-command.command) (map string_bytes c.args.words.now) (found_of c.in_ok-matches.matches) c.in_ok-command.ensures c.requires c.in_ok-matches.ensures.taken c.in_ok-matches.ensures.rows c.get_flag-journal.result (string_bytes c.in_ok-folder.folder) (string_bytes c.in_ok-host.host) c.in_ok-port.port c.in_ok-connections.connections (told_shape c.in_ok-shape.shape)
    c.get_flag-journal.ensures.value c.get_flag-journal.ensures.other c.in_ok-folder.ensures.read c.in_ok-host.ensures.read c.in_ok-port.ensures.read c.in_ok-connections.ensures.read c.in_ok-shape.ensures.read
    (sym c.asks_for_both.ensures ∙ c.if-asks_for_both.false)
