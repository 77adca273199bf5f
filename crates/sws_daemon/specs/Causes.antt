-- Why a generation has failed, and the status of a program that ends with that.
use Rattle.std.specs.Prelude.{ℕ, Option, None, Some}
use Rattle.sws_link.specs.declared.Opened.{Opened}
use Rattle.sws_link.specs.declared.Opened.TheVariants as opened
use Rattle.sws_handlers.specs.declared.Verdict.{Verdict}
use Rattle.sws_handlers.specs.declared.Verdict.TheVariants as verdict
use Rattle.sws_daemon.specs.declared.cause.Cause.{Cause}
use Rattle.sws_daemon.specs.declared.cause.Cause.TheVariants as cause

-- why a run has failed that was judged so
abbrev pub run_cause : Option Verdict → Option Cause
run_cause None = None
run_cause (Some verdict.Ok) = None
run_cause (Some verdict.World) = Some cause.Network
run_cause (Some verdict.Memory) = Some cause.Memory
run_cause (Some (verdict.Apart conn)) = Some cause.Apart

-- why a generation has failed whose world answered so when it was opened, and whose run was judged
-- so
abbrev pub cause_by : Opened → Option Verdict → Option Cause
cause_by opened.Ready judged = run_cause judged
cause_by opened.Failed judged = Some cause.Socket
cause_by opened.Memory judged = Some cause.Opening

-- the status, as of `sws`: 6 for the machine, 7 for memory, 13 for a lost connection
abbrev pub status_by : Cause → ℕ
status_by cause.Socket = 6
status_by cause.Opening = 7
status_by cause.Network = 6
status_by cause.Memory = 7
status_by cause.Apart = 13
