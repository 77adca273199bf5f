-- The journal of a replay is accepted: a setup that says the same allows the same.
use Rattle.std.proofs.Common.{◌≡◌, ◌<◌, ◌≤◌, ◌+◌, ◌%◌, ℕ, zero, suc, Bool, true, List, [], ◌∷◌, Some, length, min, refl, sym, ap, ◌∙◌, subst}
use Rattle.std.specs.Prelude.{slice_get}
use Rattle.std.specs.List.{AllByRecursion}
use Rattle.mely_event.specs.declared.colour.Colour.{Colour}
use Rattle.mely_history.specs.Entries.{colour_of}
use Rattle.mely_history.specs.History.{owner_of, queued_of, worth_of}
use Rattle.mely_history.specs.Legal.{IsAllowed, AreLegal, IsDrained}
use Rattle.mely_history.specs.Setup.{colours_of}
use Rattle.mely_history.specs.declared.entry.Entry.{Entry}
use Rattle.mely_history.specs.declared.entry.Entry.TheVariants.{Reg, Take, Fin, Steal}
use Rattle.mely_history.specs.declared.setup.Setup.{Setup}
use Rattle.mely_history.specs.declared.shape.Shape.{Shape}
use Rattle.mely_machine.specs.Rules.{Rules, rules_of, owner_by, worth_by}
use Rattle.mely_check.specs.Journals.{AreFit, entries_in, line_limit}
use Rattle.sws_weave.specs.ServerRun.{server_rules}
use Rattle.sws_log.specs.declared.line.LogLine.{LogLine}
use Rattle.mely_journal.specs.Journal.{journal}
use Rattle.sws_script.specs.declared.input.Input.{Input}
use Rattle.sws_script.specs.declared.input.ScriptConn.{ScriptConn}
use Rattle.sws_site.specs.Site.{SiteState}
use Rattle.sws_replay.specs.Accepted.{IsServerSetup, IsServerJournal, EndsAccepted}
use Rattle.sws_replay.specs.Expected.{Expected, by_http}
use Rattle.sws_replay.specs.Histories.{AreServed}
use Rattle.sws_replay.specs.Replays.{IsReplay, IsScheduledReplay}

-- two setups that say the same rules and have as many colours
module _ (one other : Setup) (rules : rules_of one ≡ rules_of other) (colours : colours_of one ≡ colours_of other) where
  owner_is : (history : List Entry) (c : Colour) → owner_of one history c ≡ owner_of other history c
  owner_is history c = ap (λ (r : Rules). owner_by r history c) rules

  worth_is : (history : List Entry) (c : Colour) → worth_of one history c ≡ worth_of other history c
  worth_is history c = ap (λ (r : Rules). worth_by r history c) rules

  -- what may follow a history by the one may by the other
  allowed : (history : List Entry) (entry : Entry) → IsAllowed one history entry → IsAllowed other history entry
  allowed history (Reg c event by) may = record {
    colour = subst (λ (n : ℕ). c.0 < n) colours may.colour;
    handler = subst (λ (r : Rules). event.handler < length r.rows) rules may.handler;
  }
  allowed history (Take c core count) may = record {
    by_owner = may.by_owner ∙ owner_is history c;
    ready = may.ready;
    whole_batch = may.whole_batch ∙ ap (λ (r : Rules). min r.shape.batch (length (queued_of history c))) rules;
  }
  allowed history (Fin c core count) may = may
  allowed history (Steal c from to) may = record {
    not_pinned = subst (λ (r : Rules). r.pinned ≤ c.0) rules may.not_pinned;
    from_owner = may.from_owner ∙ owner_is history c;
    other = may.other;
    core = subst (λ (r : Rules). to < r.shape.cores) rules may.core;
    ready = may.ready;
    worthy = subst (λ (r : Rules). r.shape.steal_cost < worth_by r history c) rules may.worthy;
  }

  legal_too : (histories : List (List Entry)) → AreLegal one histories → AreLegal other histories
  legal_too histories are = record {
    legal = λ shard history there at entry is. allowed _ entry (are.legal shard history there at entry is);
    of_shard = λ shard history there. subst (λ (r : Rules). AllByRecursion (λ entry. (colour_of entry).0 % r.shape.shards ≡ shard) history) rules (are.of_shard shard history there);
  }

all_drained : (histories : List (List Entry)) → ((shard : ℕ) (history : List Entry) → slice_get histories shard ≡ Some history → IsDrained history) → AllByRecursion IsDrained histories
all_drained [] each = tt
all_drained (history ∷ histories) each = (each zero history refl, all_drained histories (λ shard. each (suc shard)))

-- the rules of the server's setups
says_rules : (connections : ℕ) (log : Bool) (shape : Shape) (setup : Setup) → IsServerSetup connections log shape setup → rules_of setup ≡ server_rules shape
says_rules connections log shape setup of_server =
    λ i. record { shape = of_server.shape_is i; rows = of_server.handlers i; pinned = of_server.pinned i }

-- a server that has served these connections has left the histories of an accepted journal
accepted : (expected : Expected) (shape : Shape) (conns : List ScriptConn) (log : Bool) (lines : List LogLine) (histories : List (List Entry)) → AreServed expected shape conns log lines histories → AreFit shape.shards histories
    → length histories + entries_in histories < line_limit → IsServerJournal (length conns) log shape (journal histories)
accepted expected shape conns log lines histories served fit few = (
  histories,
  λ (setup : Setup) (of_server : IsServerSetup (length conns) log shape setup).
      let rules : rules_of served.setup ≡ rules_of setup = served.rules ∙ sym (says_rules (length conns) log shape setup of_server) in
      let legal = legal_too served.setup setup rules (served.colours ∙ sym of_server.colours) histories served.legal in
      record {
        journal_of = record {
          fit = subst (λ (s : Shape). AreFit s.shards histories) (sym of_server.shape_is) fit;
          is = refl;
          few = few;
        };
        legal = legal;
        drained = all_drained histories served.drained;
      },
)

pub replayed_accepted : (expected : Expected) (shape : Shape) (conns : List ScriptConn) (log : Bool) (text : List ℕ) → IsReplay expected shape conns log true text → EndsAccepted expected shape conns log text
replayed_accepted expected shape conns log text is = record {
  lines = is.0;
  logged = is.2;
  histories = is.1;
  is = is.5;
  accepted = accepted expected shape conns log is.0 is.1 is.3 is.4;
}

pub scheduled_accepted : (site : SiteState) (shape : Shape) (input : Input) (log : Bool) (text : List ℕ) → IsScheduledReplay site shape input log text → EndsAccepted (by_http site) shape input.conns log text
scheduled_accepted site shape input log text is = record {
  lines = is.0;
  logged = is.3;
  histories = is.1;
  is = is.6;
  accepted = accepted (by_http site) shape input.conns log is.0 is.1 is.4 is.5;
}
