-- The log of a connection of HTTP, by the laws of all connections.
use Rattle.std.proofs.Common.{ℕ, List, Option, Some, None, ap, ◌∙◌, subst}
use Rattle.sws_link.specs.declared.Link.{Ghosts as LinkWords}
use Rattle.sws_link.specs.Contents.{IsPrefix}
use Rattle.sws_link.specs.Links.{LinkContents, input_of}
use Rattle.sws_log.specs.declared.line.LogLine.{LogLine}
use Rattle.sws_log.specs.Lines.{lines_within}
use Rattle.sws_site.specs.Site.{SiteState}
use Rattle.sws_steps.specs.Logs as logs
use Rattle.sws_steps.specs.LogLaws.{log-begins}
use Rattle.sws_steps.proofs.Logs.ToldLemmas.{given-log}
use Rattle.sws_conn.specs.Http.{http}
use Rattle.sws_conn.specs.HttpLaws.{http-orderly}
use Rattle.sws_conn.specs.Conn.{ConnState}
use Rattle.sws_steps.specs.declared.Handler.{Handler}
use Rattle.sws_conn.specs.Logs.{log_of, log_of-is, HasGiven, IsLogWithin, IsLogPrefix}

-- where the log is the one of all protocols
within-is : (site : SiteState) (conn : ℕ) (tells : Option LinkContents) (written : ℕ) (lines : List LogLine)
    → IsLogWithin (logs.log_of http site conn) tells written lines → IsLogWithin (log_of site conn) tells written lines
within-is site conn None written lines is = is
within-is site conn (Some tells) written lines is = is ∙ ap (lines_within written) (log_of-is site conn (input_of tells))

-- the lines of a run are those of the answers that were written whole
pub run-log : {L : Type 0} (x : LinkWords L) (site : SiteState) (first : L) (conn : ℕ) (trail : List Handler) (now : ConnState L) (lines : List LogLine)
    → HasGiven x site first conn trail now lines → IsLogWithin (log_of site conn) (x.tells first) now.standing.written lines
run-log x site first conn trail now lines given =
    within-is site conn (x.tells first) now.standing.written lines (given-log http http-orderly x site first conn trail now lines given)

-- more bytes bring more lines
pub log-grows : (site : SiteState) (conn : ℕ) (front bytes : List ℕ) → IsPrefix front bytes → IsLogPrefix (log_of site conn front) (log_of site conn bytes)
log-grows site conn front bytes prefix =
    subst (λ l. IsLogPrefix l (log_of site conn bytes)) (log_of-is site conn front)
    (subst (IsLogPrefix (logs.log_of http site conn front)) (log_of-is site conn bytes) (log-begins http http-orderly site conn front bytes prefix))
