-- What is found of a text that has ended.
use Rattle.std.proofs.Common.{◌≡◌, ℕ, zero, suc, ◌+◌, ◌<◌, ◌≤◌, ◌%◌, List, [], ◌∷◌, ◌++◌, Option, None, Some, Result, Ok, Err, length, get_or, take, drop, refl, sym, ap, subst, ◌∙◌, arith, inl, inr, append-nil, length-append}
use Rattle.std.specs.Prelude.{MatchOption, unwrap_or}
use Rattle.std.specs.List.{slice_get, AllByRecursion}
use Rattle.std.proofs.lemmas.Bool.{cases_eq, cases_lt, cases_order}
use Rattle.std.proofs.Math.Seq.{take-append_seam}
use Rattle.std.proofs.lemmas.Option.{get_or_from_slice_get, slice_get-get_or}
use Rattle.mely_event.specs.declared.colour.Colour.{Colour}
use Rattle.mely_event.specs.declared.event.Event.{Event}
use Rattle.mely_history.specs.Setup.{shape_of, colours_of}
use Rattle.mely_history.specs.Entries.{colour_of}
use Rattle.mely_history.specs.History.{registered_of, begun_of}
use Rattle.mely_history.specs.ColourAccount.{ColourAccount, account_of}
use Rattle.mely_history.specs.Legal.{IsAllowed, IsLegal, IsOfShard, AreLegal, IsDrained, IsDrainedOf}
use Rattle.mely_history.specs.declared.setup.Setup.{Setup}
use Rattle.mely_history.specs.declared.entry.Entry.{Entry}
use Rattle.mely_history.proofs.ColourAccountLemmas.{account-other}
use Rattle.mely_history.proofs.LegalLemmas.{over_legal}
use Rattle.mely_history.proofs.LegalAccountLemmas.{begun_within, ended_within}
use Rattle.mely_history.proofs.BeyondLemmas.{none_registered}
use Rattle.mely_journal.proofs.UniqueJournalLemmas.{journal-unique}
use Rattle.mely_check.specs.Journals.{IsFirstOutside, join_lines, entries_in}
use Rattle.sws_link.specs.declared.Got.TheVariants.{End}
use Rattle.sws_link.specs.Contents.{Takes}
use Rattle.mely_check.specs.Reports.{all_entries, AreReports}
use Rattle.mely_check.specs.Verdicts.{IsFirstIllegal, IsLeastLeft, IsJournalOf, IsDrainedRun, IsNotLegal, IsNotDrained, IsAccepted, Says, Finds, IsAcceptance, Accepts, AgreesWith, IsExact}
use Rattle.mely_check.specs.Hearing.{Walk, histories_in, IsRunHeard, HearsRun}
use Rattle.mely_check.specs.Judges.{Judges, own_of, IsWatched, AreDrainedBelow, IsOpenAt}
use Rattle.mely_check.specs.Readers.{Knows, HasRead, Ends, IsEnded}
use Rattle.mely_check.specs.declared.fault.CheckFault.{CheckFault}
use Rattle.mely_check.specs.declared.fault.CheckFault.TheVariants.{Read, BadJournal, NotLegal, NotDrained, Memory}
use Rattle.mely_check.specs.declared.judge.Judge.{Judge}
use Rattle.mely_check.specs.declared.reader.Reader.{Reader}
use Rattle.mely_check.specs.declared.report.Report.{Report}
use Rattle.mely_check.specs.declared.watch.Watch.{Watch}
use Rattle.mely_check.proofs.WatchLemmas.{drained_exactly}
use Rattle.mely_check.proofs.JudgeLemmas.{are_legal, legal_at, length-all}
use Rattle.mely_check.proofs.ReaderLemmas.{IsWhole, walk_whole, stands_of, text_short}
use Rattle.mely_check.proofs.ExactLemmas.{never_outside, outside_once}
use Rattle.mely_check.proofs.ListLemmas.{at_seam}
use Rattle.mely_check.proofs.WalkLemmas.{small_histories}

-- ---- a colour of another shard, and one that there isn't

all_front : {X : Type 0} (P : X → Type 0) (a b : List X) → AllByRecursion P (a ++ b) → AllByRecursion P a × AllByRecursion P b
all_front P [] b all = (tt, all)
all_front P (x ∷ a) b all = let rest = all_front P a b all.1 in ((all.0, rest.0), rest.1)

-- a history of a shard says nothing of the colours of the others
says_nothing : (setup : Setup) (shard : ℕ) (c : Colour) → (c.0 % (shape_of setup).shards ≡ shard → ⊥) → (history : List Entry) → IsLegal setup history → IsOfShard setup shard history → account_of setup history c ≡ account_of setup [] c
says_nothing setup shard c other = over_legal setup (λ history. IsOfShard setup shard history → account_of setup history c ≡ account_of setup [] c)
    (λ of_shard. refl)
    (λ history entry legal may old of_shard.
    let parts = all_front (λ x. (colour_of x).0 % (shape_of setup).shards ≡ shard) history (entry ∷ []) of_shard in
    account-other setup history entry c (λ same. other (ap (λ k. k % (shape_of setup).shards) (sym same) ∙ parts.1.0)) ∙ old parts.0)

drained_elsewhere : (setup : Setup) (shard : ℕ) (c : Colour) (history : List Entry) → (c.0 % (shape_of setup).shards ≡ shard → ⊥) → IsLegal setup history → IsOfShard setup shard history → IsDrainedOf history c
drained_elsewhere setup shard c history other legal of_shard =
    let nothing = says_nothing setup shard c other history legal of_shard in
    record {
      at_rest = ap (λ (a : ColourAccount). a.begun) nothing ∙ sym (ap (λ (a : ColourAccount). a.ended) nothing);
      none_queued = ap (λ (a : ColourAccount). drop a.begun a.registered) nothing;
    }

drop-none : (n : ℕ) (events : List Event) → events ≡ [] → drop n events ≡ []
drop-none zero events none = none
drop-none (suc n) [] none = refl
drop-none (suc n) (e ∷ events) none = absurd (cc)

drained_beyond : (setup : Setup) (c : Colour) (history : List Entry) → IsLegal setup history → colours_of setup ≤ c.0 → IsDrainedOf history c
drained_beyond setup c history legal high =
    let none = none_registered setup history legal c high in
    let long = ap (λ t. length t) none in
    let begun = begun_within setup history c legal in
    let ended = ended_within setup history c legal in
    record { at_rest = omega (arith, long, begun, ended); none_queued = drop-none (begun_of history c) (registered_of history c) none }

module _ (setup : Setup) (histories : List (List Entry)) (judge : Judge) (w : IsWatched setup histories judge) where
  -- a colour below a drained one's number is drained in the history of its shard
  drained_own : (high : ℕ) (c : Colour) → AreDrainedBelow judge.watches.items high → c.0 < high → c.0 < colours_of setup → IsDrainedOf (own_of setup histories c) c
  drained_own high c below low there = found (in_there judge.watches.items c.0 (let many = w.many in omega arith))
    where
      in_there : (items : List Watch) (k : ℕ) → k < length items → (watch : Watch) × (slice_get items k ≡ Some watch)
      in_there [] k lt = absurd (omega arith)
      in_there (x ∷ items) zero lt = (x, refl)
      in_there (x ∷ items) (suc k) lt = in_there items k (omega arith)

      found : (watch : Watch) × (slice_get judge.watches.items c.0 ≡ Some watch) → IsDrainedOf (own_of setup histories c) c
      found f = (drained_exactly setup (own_of setup histories c) c f.0 (w.watched c f.0 f.1)).0 (below c.0 low f.0 f.1)

  drained_in : (high : ℕ) (c : Colour) (shard : ℕ) (history : List Entry) → AreDrainedBelow judge.watches.items high → (c.0 < colours_of setup → c.0 < high) → slice_get histories shard ≡ Some history → IsDrainedOf history c
  drained_in high c shard history below low there =
      let legal = legal_at setup 0 shard shard histories history (omega arith) w.legal there in
      elim (cases_eq (c.0 % (shape_of setup).shards) shard) [
        | inl same ↦ (
            let own : own_of setup histories c ≡ history = ap (λ k. get_or histories k []) same ∙ get_or_from_slice_get histories shard history [] there in
            elim (cases_lt c.0 (colours_of setup)) [
              | inl is ↦ subst (λ h. IsDrainedOf h c) own (drained_own high c below (low is) is)
              | inr past ↦ drained_beyond setup c history legal.0 past
            ]
            )
        | inr other ↦ drained_elsewhere setup shard c history other legal.0 legal.1
      ]

  all_drained : AreDrainedBelow judge.watches.items (colours_of setup) → AllByRecursion IsDrained histories
  all_drained below = all_from histories (λ shard history there c. drained_in (colours_of setup) c shard history below (λ is. is) there)
    where
      all_from : (hs : List (List Entry)) → ((shard : ℕ) (history : List Entry) → slice_get hs shard ≡ Some history → IsDrained history) → AllByRecursion IsDrained hs
      all_from [] each = tt
      all_from (h ∷ hs) each = (each 0 h refl, all_from hs (λ shard history there. each (suc shard) history there))

  least_left : (colour : ℕ) → length histories ≡ (shape_of setup).shards → AreDrainedBelow judge.watches.items colour → IsOpenAt judge.watches.items colour → IsLeastLeft histories colour
  least_left colour many below open_at =
      let c : Colour = record { 0 = colour } in
      let some : 1 ≤ (shape_of setup).shards = setup.shards_in.0 in
      let within : colour % (shape_of setup).shards < length histories = omega arith in
      record {
        shard = colour % (shape_of setup).shards;
        history = own_of setup histories c;
        there = slice_get-get_or histories (colour % (shape_of setup).shards) [] within;
        left = λ drained. open_at.open_is ((drained_exactly setup (own_of setup histories c) c open_at.watch (w.watched c open_at.watch open_at.there)).1 drained);
        least = λ d low. all_of histories (λ shard history there. drained_in colour d shard history below (λ is. low) there);
      }
    where
      all_of : {d : Colour} (hs : List (List Entry)) → ((shard : ℕ) (history : List Entry) → slice_get hs shard ≡ Some history → IsDrainedOf history d) → AllByRecursion (λ other. IsDrainedOf other d) hs
      all_of [] each = tt
      all_of (h ∷ hs) each = (each 0 h refl, all_of hs (λ shard history there. each (suc shard) history there))

-- ---- all was read

module _ (Heard : Walk → Type 0) (setup : Setup) (text : List ℕ) (reader : Reader) (k : Knows Heard setup text reader) (same : reader.place.shards ≡ (shape_of setup).shards) (none : reader.place.left ≡ 0) (all : reader.place.begun ≡ reader.place.shards) (empty : reader.line.items ≡ []) where
  whole : IsWhole (shape_of setup).shards k.heard.at.walk
  whole = walk_whole (shape_of setup).shards k.heard.at.walk k.heard.at.fit (sym k.heard.at.left ∙ none) (sym k.heard.at.begun ∙ all ∙ same)

  journal_of : IsJournalOf setup (histories_in k.heard.at.walk) text
  journal_of = record {
    fit = whole.fit;
    is = k.is ∙ ap (λ t. join_lines k.lines ++ t) empty ∙ append-nil (join_lines k.lines) ∙ k.heard.at.is ∙ whole.is;
    few = (
        let at = k.heard.at in
        let lines_are = at.counted in
        let number = at.number in
        let high = reader.place.number_in in
        let begun = at.begun in
        let many = whole.fit.many in
        let entries = whole.counted in omega (arith, lines_are, number, high, begun, many, entries, all, same)
        );
  }

  watched : (o : Option ℕ) → o ≡ None → MatchOption o (IsWatched setup (histories_in k.heard.at.walk) reader.judge) (IsFirstIllegal setup (histories_in k.heard.at.walk)) → IsWatched setup (histories_in k.heard.at.walk) reader.judge
  watched None is w = w
  watched (Some line) is f = absurd (cc)

  fault_is : (o : Option ℕ) (line : ℕ) → o ≡ Some line → MatchOption o (IsWatched setup (histories_in k.heard.at.walk) reader.judge) (IsFirstIllegal setup (histories_in k.heard.at.walk)) → IsFirstIllegal setup (histories_in k.heard.at.walk) line
  fault_is None line is w = absurd (cc)
  fault_is (Some found) line is f = subst (IsFirstIllegal setup (histories_in k.heard.at.walk)) (ap (λ (o : Option ℕ). elim o as (λ _. ℕ) [ None ↦ 0 | Some n ↦ n ]) is) f

  pub ends : (result : Result (Unit {0}) CheckFault) → Judges reader.judge result → Ends setup text reader result
  ends (Ok u) judges =
      let w = watched reader.judge.fault judges.0 k.heard.judged in
      λ report entries cores. record {
        histories = histories_in k.heard.at.walk;
        run = record {
          journal_of = journal_of;
          legal = are_legal setup (histories_in k.heard.at.walk) w.legal;
          drained = all_drained setup (histories_in k.heard.at.walk) reader.judge w (subst (λ s. AreDrainedBelow reader.judge.watches.items (colours_of s)) w.setup_is judges.1);
        };
        sums = record {
          entries = entries ∙ k.heard.at.entries ∙ (whole).counted ∙ sym (length-all (histories_in k.heard.at.walk));
          cores = subst (AreReports setup (all_entries (histories_in k.heard.at.walk))) (sym cores) w.reports;
        };
      }
  ends (Err Read) judges = tt
  ends (Err (BadJournal line)) judges = absurd judges
  ends (Err (NotLegal line)) judges = record { histories = histories_in k.heard.at.walk; journal_of = journal_of; first = fault_is reader.judge.fault line judges k.heard.judged }
  ends (Err (NotDrained colour)) judges =
      let w = watched reader.judge.fault judges.0 k.heard.judged in
      record {
        histories = histories_in k.heard.at.walk;
        journal_of = journal_of;
        legal = are_legal setup (histories_in k.heard.at.walk) w.legal;
        least = least_left setup (histories_in k.heard.at.walk) reader.judge w colour (whole).fit.many judges.1 judges.2;
      }
  ends (Err Memory) judges = tt

-- a line isn't ended, or there are too few
pub ends_short : (Heard : Walk → Type 0) (setup : Setup) (text : List ℕ) (reader : Reader) (fault : CheckFault) → Knows Heard setup text reader → reader.place.shards ≡ (shape_of setup).shards → (reader.place.left ≡ 0 → reader.place.begun ≡ reader.place.shards → reader.line.items ≡ [] → ⊥) → fault ≡ BadJournal reader.place.number
    → Says setup text (Err fault)
ends_short Heard setup text reader fault k same not_whole is =
    subst (λ f. Says setup text (Err f)) (sym is) (subst (λ n. IsFirstOutside n text reader.place.number) same (text_short text reader (stands_of Heard setup text reader k) not_whole))

-- ---- what is accepted

same_histories : (setup : Setup) (one other : List (List Entry)) (text : List ℕ) → IsJournalOf setup one text → IsJournalOf setup other text → one ≡ other
same_histories setup one other text a b = journal-unique one other (small_histories one a.fit.fit) (small_histories other b.fit.fit) (sym a.is ∙ b.is)

-- what was accepted was heard
pub run_heard : (Heard : Walk → Type 0) (setup : Setup) (text : List ℕ) (reader : Reader) (report : Report) → Knows Heard setup text reader → reader.place.shards ≡ (shape_of setup).shards → IsEnded reader → IsAccepted setup text report → IsRunHeard setup text Heard
run_heard Heard setup text reader report k same ended accepted =
    let walk = k.heard.at.walk in
    record {
      histories = accepted.histories;
      run = accepted.run;
      heard = record {
        walk = walk;
        is = same_histories setup (histories_in walk) accepted.histories text (journal_of Heard setup text reader k same ended.left ended.begun ended.ended) accepted.run.journal_of;
        whole = sym k.heard.at.left ∙ ended.left;
        heard = k.heard.told;
      };
    }

-- the text has ended, and was accepted
pub end_heard : (Heard : Walk → Type 0) (setup : Setup) (told left now : Option (List ℕ)) (room : List ℕ) (reader : Reader) (report : Report) → HasRead Heard setup told left reader → Takes left now End room → reader.place.shards ≡ (shape_of setup).shards
    → IsEnded reader → ((text : List ℕ) → Knows Heard setup text reader → IsAccepted setup text report) → HearsRun setup told Heard (Ok report)
end_heard Heard setup None left now room reader report read takes same ended accepts = tt
end_heard Heard setup (Some told) None now room reader report read takes same ended accepts = absurd read
end_heard Heard setup (Some told) (Some left) now room reader report read takes same ended accepts =
    let text_is : told ≡ read.0 = read.1 ∙ ap (λ t. read.0 ++ t) takes.0 ∙ append-nil read.0 in
    subst (λ t. IsRunHeard setup t Heard) (sym text_is) (run_heard Heard setup read.0 reader report read.2 same ended (accepts read.0 read.2))

legal_not : (setup : Setup) (histories : List (List Entry)) (line : ℕ) → AreLegal setup histories → IsFirstIllegal setup histories line → ⊥
legal_not setup histories line legal f =
    let history : List Entry = f.front ++ f.entry ∷ f.behind in
    let there : slice_get histories (length f.before) ≡ Some history = ap (λ hs. slice_get hs (length f.before)) f.is ∙ at_seam f.before f.more history in
    let of_shard = (all_front (λ x. (colour_of x).0 % (shape_of setup).shards ≡ length f.before) f.front (f.entry ∷ f.behind) (legal.of_shard (length f.before) history there)).1.0 in
    let allowed = legal.legal (length f.before) history there (length f.front) f.entry (at_seam f.front f.behind f.entry) in
    f.fault of_shard (subst (λ h. IsAllowed setup h f.entry) (take-append_seam f.front (f.entry ∷ f.behind)) allowed)

drained_not : (histories : List (List Entry)) (colour : ℕ) → AllByRecursion IsDrained histories → IsLeastLeft histories colour → ⊥
drained_not histories colour drained least = least.left (at histories least.shard least.history drained least.there (record { 0 = colour }))
  where
    at : (hs : List (List Entry)) (shard : ℕ) (history : List Entry) → AllByRecursion IsDrained hs → slice_get hs shard ≡ Some history → IsDrained history
    at [] shard history all there = absurd (cc)
    at (h ∷ hs) zero history all there = subst IsDrained (ap (λ (o : Option (List Entry)). elim o as (λ _. List Entry) [ None ↦ h | Some x ↦ x ]) there) all.0
    at (h ∷ hs) (suc shard) history all there = at hs shard history all.1 there

journal_not_bad : (setup : Setup) (histories : List (List Entry)) (text : List ℕ) (line : ℕ) → IsJournalOf setup histories text → IsFirstOutside (shape_of setup).shards text line → ⊥
journal_not_bad setup histories text line is outside =
    let shards_few = setup.shards_in.1 in
    let many = is.fit.many in
    let few = is.few in
    never_outside (shape_of setup).shards text (entries_in histories) line (omega arith) (record { histories = histories; fit = is.fit; is = is.is; counted = refl }) (omega arith) outside

legal_run_not : (setup : Setup) (one : List (List Entry)) (text : List ℕ) (line : ℕ) → IsJournalOf setup one text → AreLegal setup one → IsNotLegal setup text line → ⊥
legal_run_not setup one text line is legal not = legal_not setup not.histories line (subst (AreLegal setup) (same_histories setup one not.histories text is not.journal_of) legal) not.first

drained_run_not : (setup : Setup) (one : List (List Entry)) (text : List ℕ) (colour : ℕ) → IsJournalOf setup one text → AllByRecursion IsDrained one → IsNotDrained setup text colour → ⊥
drained_run_not setup one text colour is drained not = drained_not not.histories colour (subst (AllByRecursion IsDrained) (same_histories setup one not.histories text is not.journal_of) drained) not.least

accepts_text : (setup : Setup) (text : List ℕ) (histories : List (List Entry)) (found : Result Report CheckFault) → Says setup text found → IsDrainedRun setup histories text → IsAcceptance found
accepts_text setup text histories (Ok report) says run = tt
accepts_text setup text histories (Err Read) says run = inl refl
accepts_text setup text histories (Err (BadJournal line)) says run = absurd (journal_not_bad setup histories text line run.journal_of says)
accepts_text setup text histories (Err (NotLegal line)) says run = absurd (legal_run_not setup histories text line run.journal_of run.legal says)
accepts_text setup text histories (Err (NotDrained colour)) says run = absurd (drained_run_not setup histories text colour run.journal_of run.drained says)
accepts_text setup text histories (Err Memory) says run = inr refl

told_text : (setup : Setup) (told : Option (List ℕ)) (text : List ℕ) (found : Result Report CheckFault) → told ≡ Some text → Finds setup told found → Says setup text found
told_text setup told text found is finds = subst (λ o. Finds setup o found) is finds

pub accepts : (setup : Setup) (told : Option (List ℕ)) (found : Result Report CheckFault) → Finds setup told found → Accepts setup told found
accepts setup told found finds text histories is run = accepts_text setup text histories found (told_text setup told text found is finds) run

-- ---- each text has one answer

-- the entry at a place stands in what is before a later one
record Inside (front : List Entry) (e : Entry) (place : ℕ) (whole : List (List Entry)) : Type 0 where
  pub history : List Entry
  pub there : slice_get whole place ≡ Some history
  pub at : slice_get history (length front) ≡ Some e
  pub before : take (length front) history ≡ front

inside_front : (front : List Entry) (e : Entry) (behind front' : List Entry) (e' : Entry) (behind' : List Entry) → front ++ e ∷ behind ≡ front' ++ e' ∷ behind' → length front < length front' → (slice_get front' (length front) ≡ Some e) × (take (length front) front' ≡ front)
inside_front [] e behind [] e' behind' same less = absurd (omega arith)
inside_front [] e behind (x ∷ front') e' behind' same less = (let first : x ≡ e = cc in ap (λ y. Some y) first, refl)
inside_front (x ∷ front) e behind [] e' behind' same less = absurd (omega arith)
inside_front (x ∷ front) e behind (y ∷ front') e' behind' same less =
    let first : y ≡ x = cc in
    let rest : front ++ e ∷ behind ≡ front' ++ e' ∷ behind' = cc in
    let tail = inside_front front e behind front' e' behind' rest (omega arith) in
    (tail.0, ap (λ t. y ∷ t) tail.1 ∙ ap (λ z. z ∷ front) first)

inside : (b : List (List Entry)) (front : List Entry) (e : Entry) (behind : List Entry) (more b' : List (List Entry)) (front' : List Entry) (e' : Entry) (behind' : List Entry) (more' : List (List Entry))
    → b ++ (front ++ e ∷ behind) ∷ more ≡ b' ++ (front' ++ e' ∷ behind') ∷ more' → length b + entries_in b + length front < length b' + entries_in b' + length front' → Inside front e (length b) (b' ++ front' ∷ [])
inside [] front e behind more [] front' e' behind' more' same less =
    let first : front ++ e ∷ behind ≡ front' ++ e' ∷ behind' = cc in
    let found = inside_front front e behind front' e' behind' first (omega arith) in
    record { history = front'; there = refl; at = found.0; before = found.1 }
inside [] front e behind more (h ∷ b') front' e' behind' more' same less =
    let first : front ++ e ∷ behind ≡ h = cc in
    record {
      history = h;
      there = refl;
      at = ap (λ t. slice_get t (length front)) (sym first) ∙ at_seam front behind e;
      before = ap (take (length front)) (sym first) ∙ take-append_seam front (e ∷ behind);
    }
inside (h ∷ b) front e behind more [] front' e' behind' more' same less =
    let first : h ≡ front' ++ e' ∷ behind' = cc in
    absurd (let long = ap (λ t. length t) first in omega (arith, long, length-append front' (e' ∷ behind')))
inside (h ∷ b) front e behind more (h' ∷ b') front' e' behind' more' same less =
    let first : h ≡ h' = cc in
    let rest : b ++ (front ++ e ∷ behind) ∷ more ≡ b' ++ (front' ++ e' ∷ behind') ∷ more' = cc in
    let long = ap (λ t. length t) first in
    let tail = inside b front e behind more b' front' e' behind' more' rest (omega (arith, long)) in
    record { history = tail.history; there = tail.there; at = tail.at; before = tail.before }

holds_at : {X : Type 0} (P : X → Type 0) (xs : List X) (k : ℕ) (x : X) → AllByRecursion P xs → slice_get xs k ≡ Some x → P x
holds_at P [] k x all there = absurd (cc)
holds_at P (y ∷ xs) zero x all there = subst P (ap (λ o. unwrap_or o y) there) all.0
holds_at P (y ∷ xs) (suc k) x all there = holds_at P xs k x all.1 there

not_earlier : (setup : Setup) (histories : List (List Entry)) (one other : ℕ) → IsFirstIllegal setup histories one → IsFirstIllegal setup histories other → one < other → ⊥
not_earlier setup histories one other f g less =
    let a = f.counted in
    let b = g.counted in
    let i = inside f.before f.front f.entry f.behind f.more g.before g.front g.entry g.behind g.more (sym f.is ∙ g.is) (omega (arith, a, b)) in
    f.fault (holds_at (λ x. (colour_of x).0 % (shape_of setup).shards ≡ length f.before) i.history (length f.front) f.entry (g.legal.of_shard (length f.before) i.history i.there) i.at)
    (subst (λ h. IsAllowed setup h f.entry) i.before (g.legal.legal (length f.before) i.history i.there (length f.front) f.entry i.at))

one_line : (setup : Setup) (histories : List (List Entry)) (one other : ℕ) → IsFirstIllegal setup histories one → IsFirstIllegal setup histories other → one ≡ other
one_line setup histories one other f g = elim (cases_order one other) [
  | inl same ↦ same
  | inr differ ↦ elim differ [ inl less ↦ absurd (not_earlier setup histories one other f g less) | inr more ↦ absurd (not_earlier setup histories other one g f more) ]
]

not_less : (histories : List (List Entry)) (one other : ℕ) → IsLeastLeft histories one → IsLeastLeft histories other → one < other → ⊥
not_less histories one other a b less = a.left (holds_at (λ h. IsDrainedOf h (record { 0 = one })) histories a.shard a.history (b.least (record { 0 = one }) less) a.there)

one_colour : (histories : List (List Entry)) (one other : ℕ) → IsLeastLeft histories one → IsLeastLeft histories other → one ≡ other
one_colour histories one other a b = elim (cases_order one other) [
  | inl same ↦ same
  | inr differ ↦ elim differ [ inl less ↦ absurd (not_less histories one other a b less) | inr more ↦ absurd (not_less histories other one b a more) ]
]

agrees : (setup : Setup) (text : List ℕ) (right found : Result Report CheckFault) → Says setup text right → Says setup text found → AgreesWith right found
agrees setup text (Ok report) found right says = accepts_text setup text right.histories found says right.run
agrees setup text (Err Read) found right says = tt
agrees setup text (Err Memory) found right says = tt
agrees setup text (Err (BadJournal line)) (Ok report) right says = journal_not_bad setup says.histories text line says.run.journal_of right
agrees setup text (Err (BadJournal line)) (Err Read) right says = inr (inl refl)
agrees setup text (Err (BadJournal line)) (Err (BadJournal other)) right says = inl (ap BadJournal (outside_once (shape_of setup).shards text other line says right))
agrees setup text (Err (BadJournal line)) (Err (NotLegal other)) right says = absurd (journal_not_bad setup says.histories text line says.journal_of right)
agrees setup text (Err (BadJournal line)) (Err (NotDrained other)) right says = absurd (journal_not_bad setup says.histories text line says.journal_of right)
agrees setup text (Err (BadJournal line)) (Err Memory) right says = inr (inr refl)
agrees setup text (Err (NotLegal line)) (Ok report) right says = legal_run_not setup says.histories text line says.run.journal_of says.run.legal right
agrees setup text (Err (NotLegal line)) (Err Read) right says = inr (inl refl)
agrees setup text (Err (NotLegal line)) (Err (BadJournal other)) right says = absurd (journal_not_bad setup right.histories text other right.journal_of says)
agrees setup text (Err (NotLegal line)) (Err (NotLegal other)) right says =
    inl (ap NotLegal (one_line setup right.histories other line (subst (λ h. IsFirstIllegal setup h other) (same_histories setup says.histories right.histories text says.journal_of right.journal_of) says.first) right.first))
agrees setup text (Err (NotLegal line)) (Err (NotDrained other)) right says = absurd (legal_run_not setup says.histories text line says.journal_of says.legal right)
agrees setup text (Err (NotLegal line)) (Err Memory) right says = inr (inr refl)
agrees setup text (Err (NotDrained colour)) (Ok report) right says = drained_run_not setup says.histories text colour says.run.journal_of says.run.drained right
agrees setup text (Err (NotDrained colour)) (Err Read) right says = inr (inl refl)
agrees setup text (Err (NotDrained colour)) (Err (BadJournal other)) right says = absurd (journal_not_bad setup right.histories text other right.journal_of says)
agrees setup text (Err (NotDrained colour)) (Err (NotLegal other)) right says = absurd (legal_run_not setup right.histories text other right.journal_of right.legal says)
agrees setup text (Err (NotDrained colour)) (Err (NotDrained other)) right says =
    inl (ap NotDrained (one_colour right.histories other colour (subst (λ h. IsLeastLeft h other) (same_histories setup says.histories right.histories text says.journal_of right.journal_of) says.least) right.least))
agrees setup text (Err (NotDrained colour)) (Err Memory) right says = inr (inr refl)

pub exact : (setup : Setup) (told : Option (List ℕ)) (found : Result Report CheckFault) → Finds setup told found → IsExact setup told found
exact setup told found finds text right is says = agrees setup text right found says (told_text setup told text found is finds)
