-- What is expected of scripted connections, whatever they talk about.
use Rattle.std.specs.Prelude.{ℕ, List}
use Rattle.std.proofs.Common.{◌≡◌, ap}
use Rattle.sws_link.specs.Scripts.{Script}
use Rattle.sws_log.specs.declared.line.LogLine.{LogLine}
use Rattle.sws_steps.specs.Protocol.{output_limit}
use Rattle.sws_steps.specs.Outcome.{Outcome}
use Rattle.sws_steps.specs.declared.Handler.{Handler}
use Rattle.sws_steps.specs.declared.talk.Talk.{Ghosts as TalkWords}
use Rattle.sws_steps.specs.Logs as logs
use Rattle.sws_conn.specs.Http.{http}
use Rattle.sws_conn.specs.Logs.{log_of, log_of-is}
use Rattle.sws_conn.specs.Outcome.{outcome_of}
use Rattle.sws_conn.specs.Path.{path_of}
use Rattle.sws_conn.specs.Responses.{responses_of, input_limit}
use Rattle.sws_site.specs.Site.{SiteState}

-- the outcome of a scripted connection, and its path; the responses to the bytes of a connection;
-- the lines of an access log that all answers to these give, by its number; and how many bytes of a
-- connection count, and how many are written of it at most
pub record Expected : Type 0 where
  pub outcome : Script → Outcome
  pub path : Script → List Handler
  pub responses : List ℕ → List ℕ
  pub log : ℕ → List ℕ → List LogLine
  pub input_limit : ℕ
  pub output_limit : ℕ

-- as a talk has it, out of what its hall has
abbrev pub of_talk : {T L G H : Type 0} → TalkWords T L G H → H → Expected
of_talk y hall = record {
  outcome = y.outcome hall;
  path = y.path hall;
  responses = y.responses hall;
  log = y.log hall;
  input_limit = y.input_limit hall;
  output_limit = y.output_limit hall;
}

-- of HTTP, out of a site
abbrev pub by_http : SiteState → Expected
by_http site = record {
  outcome = outcome_of site;
  path = path_of site;
  responses = responses_of site;
  log = log_of site;
  input_limit = input_limit site;
  output_limit = output_limit http site;
}

-- it is what the talks of HTTP expect, as any protocol's do
pub by_http-is : (site : SiteState)
    → record {
      outcome = outcome_of site;
      path = path_of site;
      responses = http.responses_of site;
      log = logs.log_of http site;
      input_limit = http.input_limit site;
      output_limit = output_limit http site;
    }
    ≡ by_http site
by_http-is site =
    ap (λ lines. record {
      outcome = outcome_of site;
      path = path_of site;
      responses = responses_of site;
      log = lines;
      input_limit = input_limit site;
      output_limit = output_limit http site;
    })
    (λ i conn bytes. log_of-is site conn bytes i)
