use Rattle.std.proofs.Common.{map, string_bytes}
use Rattle.std.proofs.lemmas.Result.{err_from_is_err_and}
use Rattle.clap.specs.Words.{app_of, found_of}
use Rattle.sws_words.specs.Told.{told_shape}
use Rattle.sws_words.proofs.CommandLemmas.{replay_is}
use Rattle.sws_words.proofs.FromFoundLemmas.{replay_complete, replay_refused, of_any_fault, replay_lacks_folder, replay_lacks_shape, replay_lacks_date}
use Rattle.sws_words.proofs.reading.read_replay.Goals as goal

pub parsed-requires : goal.parsed-requires
parsed-requires c = replay_is (app_of c.in_ok-command.command) c.in_ok-command.ensures

pub returns-in_err-matches-clause-refused : goal.returns-in_err-matches-clause-refused
returns-in_err-matches-clause-refused c =
    let p = err_from_is_err_and c.from_residual-in_err-matches.result c.from_residual-in_err-matches.ensures.1 in
    rw (p.1, p.2) (λ usage. replay_refused (app_of c.in_ok-command.command) (map string_bytes c.args.words.now) c.in_ok-command.ensures c.requires (c.in_err-matches.ensures.refused usage))

pub returns-in_err-folder-clause-refused : goal.returns-in_err-folder-clause-refused
returns-in_err-folder-clause-refused c =
    let p = err_from_is_err_and c.from_residual-in_err-folder.result c.from_residual-in_err-folder.ensures.1 in
    rw (p.1, p.2) (λ usage. replay_lacks_folder (app_of c.in_ok-command.command) (map string_bytes c.args.words.now) (found_of c.in_ok-matches.matches)
    c.in_ok-command.ensures c.requires c.in_ok-matches.ensures.taken c.in_ok-matches.ensures.rows (c.in_err-folder.ensures.refused usage))

pub returns-in_err-shape-clause-refused : goal.returns-in_err-shape-clause-refused
returns-in_err-shape-clause-refused c =
    of_any_fault c.from_residual-in_err-shape.result (replay_lacks_shape (app_of c.in_ok-command.command) (map string_bytes c.args.words.now) (found_of c.in_ok-matches.matches)
    c.in_ok-command.ensures c.requires c.in_ok-matches.ensures.taken c.in_ok-matches.ensures.rows c.in_err-shape.ensures.refused)

pub returns-in_err-date-clause-refused : goal.returns-in_err-date-clause-refused
returns-in_err-date-clause-refused c =
    of_any_fault c.from_residual-in_err-date.result (replay_lacks_date (app_of c.in_ok-command.command) (map string_bytes c.args.words.now) (found_of c.in_ok-matches.matches)
    c.in_ok-command.ensures c.requires c.in_ok-matches.ensures.taken c.in_ok-matches.ensures.rows c.in_err-date.ensures.refused)

pub returns-clause-read : goal.returns-clause-read
returns-clause-read c =
    replay_complete (app_of c.in_ok-command.command) (map string_bytes c.args.words.now) (found_of c.in_ok-matches.matches) c.get_flag-journal.result c.get_flag-schedule.result c.get_flag-log.result (string_bytes c.in_ok-folder.folder) (told_shape c.in_ok-shape.shape) c.in_ok-date.date
    c.in_ok-command.ensures c.requires c.in_ok-matches.ensures.taken c.in_ok-matches.ensures.rows c.get_flag-journal.ensures.value c.get_flag-journal.ensures.other c.get_flag-schedule.ensures.value c.get_flag-schedule.ensures.other c.get_flag-log.ensures.value c.get_flag-log.ensures.other
    c.in_ok-folder.ensures.read c.in_ok-shape.ensures.read c.in_ok-date.ensures.read
