-- What a run of `answer` has read and written.
use Rattle.std.specs.Prelude.{◌≡◌, ◌⊎◌, ℕ, ◌≤◌, true, List, [], ◌++◌, length, Option, Some, None}
use Rattle.sws_link.specs.Counts.{HasCause}
use Rattle.sws_link.specs.declared.Source.{Ghosts as SourceWords}
use Rattle.sws_link.specs.declared.Sink.{Ghosts as SinkWords}
use Rattle.sws_site.specs.Site.{SiteState}
use Rattle.sws_conn.specs.Responses.{Begins, answers_to, responses_of, is_closed, input_limit}
use Rattle.sws_top.specs.declared.faults.TopFault.{TopFault}
use Rattle.sws_top.specs.declared.faults.TopFault.TheVariants.{ReadFault, WriteFault}
use Rattle.sws_top.specs.Faults.{EndsAnswering}

-- The first bytes of the input were read, and a front of the responses to them was written: all of
-- them where there was no fault, and where the source failed. Without a fault the input was read to
-- its end, or as far as it counts, or up to an answer that closes.
pub record Answered (site : SiteState) (input before : List ℕ) (left written : Option (List ℕ))
    (fault : Option TopFault) : Type 0 where
  pub read : List ℕ
  pub rest : List ℕ
  pub sent : List ℕ
  pub split : input ≡ read ++ rest
  pub left_is : left ≡ Some rest
  pub within : length read ≤ input_limit site
  pub whole : fault ≡ None → (rest ≡ []) ⊎ (length read ≡ input_limit site)
      ⊎ (is_closed (answers_to site read) ≡ true)
  pub written_is : written ≡ Some (before ++ sent)
  pub front_of_read : Begins sent (responses_of site read)
  pub front_of_all : Begins sent (responses_of site input)
  pub all : fault ≡ None → sent ≡ responses_of site input
  pub all_read : fault ≡ Some ReadFault → sent ≡ responses_of site read

-- wherever the source and the sink tell what they hold, the input was answered
abbrev pub AnswersFrom : SiteState → Option (List ℕ) → Option (List ℕ) → Option (List ℕ)
    → Option (List ℕ) → Option TopFault → Type 0
AnswersFrom site input left before written fault =
    (bytes : List ℕ) (sent : List ℕ) → input ≡ Some bytes → before ≡ Some sent
    → Answered site bytes sent left written fault

module _ {R O : Type 0} (r : SourceWords R) (o : SinkWords O) where
  -- The connection whose input is the source's, and whose output the sink takes, was answered from
  -- the site. A fault of reading comes only where the source failed, one of writing only where the
  -- sink did, and without it the count stands.
  pub record AnswersInput (site : SiteState) (source source_now : R) (out out_now : O)
      (fault : Option TopFault) : Type 0 where
    pub answered : AnswersFrom site (r.left source) (r.left source_now) (o.written out)
        (o.written out_now) fault
    pub ends : EndsAnswering fault
    pub read_cause : HasCause (r.faults source) (r.faults source_now) (fault ≡ Some ReadFault)
    pub write_cause : HasCause (o.faults out) (o.faults out_now) (fault ≡ Some WriteFault)
