-- What is shown of a connection that has ended with its link, and of a run.
use Rattle.std.specs.Prelude.{◌≡◌, ◌≢◌, ℕ, Bool, true, false, List, [], Option, Some, None}
use Rattle.mely_history.specs.declared.entry.Entry.{Entry}
use Rattle.sws_steps.specs.declared.End.{End}
use Rattle.sws_steps.specs.declared.End.TheVariants.{Done, Memory}
use Rattle.sws_handlers.specs.declared.ended.Served.{Served}
use Rattle.sws_link.specs.MemLink.{MemLinkState}
use Rattle.mely_journal.specs.Journal.{journal}

-- it has its link and an end other than want of memory
pub record IsShowable (s : Served MemLinkState) : Type 0 where
  pub link : MemLinkState
  pub there : s.link ≡ Some link
  pub end : End
  pub is : s.end ≡ Some end
  pub fine : end ≢ Memory

-- what was written on a connection's link, and nothing where it isn't there
abbrev pub shown_bytes : Option MemLinkState → List ℕ
shown_bytes None = []
shown_bytes (Some link) = link.bytes.written

-- how a connection ended, and `Done` where it has no end
abbrev pub shown_end : Option End → End
shown_end None = Done
shown_end (Some end) = end

-- its end, and what was written
abbrev pub shown_of : Served MemLinkState → End × List ℕ
shown_of s = (shown_end s.end, shown_bytes s.link)

-- the journal of histories, where that is asked for
abbrev pub journal_part : Bool → List (List Entry) → List ℕ
journal_part false histories = []
journal_part true histories = journal histories
