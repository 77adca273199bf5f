-- The commands, as `clap` is told them.
use Rattle.std.specs.Prelude.{codes, true, Some}
use Rattle.clap.specs.Simple.{App, on_top, new_app, new_rule, with_rule}
use Rattle.clap.specs.Walk.{Rule, Text}
use Rattle.clap.specs.declared.builder.action.ArgAction.TheVariants.{Set, SetTrue}

-- a word at a place, which must be there
abbrev pub place_rule : Text → Rule
place_rule name = record (new_rule name) { required = true; action = Some Set }

-- an option that has a value
abbrev pub option_rule : Text → Rule
option_rule name = record (new_rule name) { long = Some name; action = Some Set }

-- an option that has none
abbrev pub flag_rule : Text → Rule
flag_rule name = record (new_rule name) { long = Some name; action = Some SetTrue }

-- a command that has no help option
abbrev pub bare_app : Text → App
bare_app name = on_top (λ shape. record shape {
  no_binary_name = true;
  disable_help_flag = true;
}) (new_app name)

-- the options that shape a run
abbrev pub shape_app : App → App
shape_app app =
    with_rule (with_rule (with_rule (with_rule (with_rule app (option_rule (codes "workers")))
    (option_rule (codes "shards")))
    (option_rule (codes "batch"))) (option_rule (codes "group"))) (option_rule (codes "cost"))

-- the words of `answer`
abbrev pub answer_app : App
answer_app = with_rule (with_rule (bare_app (codes "answer")) (place_rule (codes "folder")))
    (option_rule (codes "date"))

-- the words of `replay`
abbrev pub replay_app : App
replay_app =
    with_rule (with_rule (with_rule (shape_app
    (with_rule (with_rule (bare_app (codes "replay")) (place_rule (codes "folder")))
    (option_rule (codes "date"))))
    (flag_rule (codes "journal"))) (flag_rule (codes "schedule"))) (flag_rule (codes "log"))

-- the words of `serve`
abbrev pub serve_app : App
serve_app =
    with_rule (shape_app (with_rule
    (with_rule (with_rule (with_rule (bare_app (codes "serve")) (place_rule (codes "folder")))
    (option_rule (codes "port"))) (option_rule (codes "connections")))
    (option_rule (codes "date"))))
    (flag_rule (codes "log"))

-- the words of `bench`
abbrev pub bench_app : App
bench_app =
    shape_app (with_rule (with_rule (bare_app (codes "bench")) (place_rule (codes "connections")))
    (place_rule (codes "number")))

-- the words of `check`
abbrev pub check_app : App
check_app =
    with_rule (shape_app (with_rule (bare_app (codes "check")) (option_rule (codes "connections"))))
    (flag_rule (codes "log"))

-- the words of `gopher`
abbrev pub gopher_app : App
gopher_app =
    with_rule (shape_app (with_rule
    (with_rule (with_rule (with_rule (bare_app (codes "gopher")) (place_rule (codes "folder")))
    (option_rule (codes "host"))) (option_rule (codes "port")))
    (option_rule (codes "connections"))))
    (flag_rule (codes "journal"))
