-- One byte more, one piece more, and the end.
use Rattle.std.proofs.Common.{◌≡◌, ◌≢◌, ℕ, ◌+◌, ◌<◌, true, false, cond, eqb, true-eqb, List, [], ◌∷◌, ◌++◌, length, take, drop, get_or, replicate, Option, Some, None, Result, Ok, Err, refl, sym, ap, subst, ◌∙◌, arith, append_assoc, append-nil, length-append}
use Rattle.std.specs.Prelude.{MatchOption, MatchResult, OnOk, is_ok, is_err}
use Rattle.std.specs.List.{flat_map}
use Rattle.std.proofs.lemmas.List.{take_more, take-append-drop, nil_from_length}
use Rattle.sws_link.specs.declared.Got.TheVariants.{Took, End}
use Rattle.sws_link.specs.Contents.{Takes}
use Rattle.mely_journal.specs.Journal.{entry_line, shard_line, journal}
use Rattle.mely_check.specs.Journals.{IsFitHistory, HasNoFeed, IsLine, IsFirstOutside, AreFit, entries_in, join_lines}
use Rattle.mely_history.specs.Setup.{shape_of, colours_of}
use Rattle.mely_history.specs.declared.setup.Setup.{Setup}
use Rattle.mely_check.specs.Verdicts.{Says, Finds}
use Rattle.mely_check.specs.Judges.{AreInitialWatches, IsJudged, HearsLine}
use Rattle.mely_check.specs.declared.judge.Judge.{Judge}
use Rattle.mely_check.specs.declared.place.Place.{Place}
use Rattle.mely_check.specs.declared.report.Report.{Report}
use Rattle.mely_check.specs.declared.reading.Line.{Line}
use Rattle.mely_check.specs.declared.reading.Line.TheVariants as said_line
use Rattle.mely_check.specs.Hearing.{Walk, start, within, begun_in, left_in, histories_in, MayCome, with_line}
use Rattle.mely_check.specs.Walks.{walk_text, count_in, IsFitWalk, IsAt, MayStand}
use Rattle.mely_check.specs.Readers.{Stands, Refuses, Stops, IsHeard, Knows, HasRead, nobody}
use Rattle.mely_check.specs.declared.fault.CheckFault.{CheckFault}
use Rattle.mely_check.specs.declared.fault.CheckFault.TheVariants.{Read, BadJournal, NotLegal, NotDrained, Memory}
use Rattle.mely_check.specs.declared.reader.Reader.{Reader}
use Rattle.mely_check.proofs.LineLemmas.{joined-push, no_feed-append}
use Rattle.mely_check.proofs.WalkLemmas.{all_append, journal-push}
use Rattle.mely_check.proofs.StepLemmas.{entries_in-push}
use Rattle.mely_check.proofs.JudgeLemmas.{judged_new, judged_shard, judged_entry}
use Rattle.mely_check.proofs.OutsideLemmas.{outside_by, no_line, outside_long, outside_line}

-- what was pushed is there
pub pushed : {A E : Type 0} (r : Result A E) (new old more : List ℕ) → new ≡ cond (is_ok r) more old → is_err r ≡ false → new ≡ more
pushed (Ok a) new old more is fine = is
pushed (Err e) new old more is fine = absurd (cc)

-- the text with a byte more
more_text : (text line : List ℕ) (lines : List (List ℕ)) (byte : ℕ) → text ≡ join_lines lines ++ line → text ++ byte ∷ [] ≡ join_lines lines ++ (line ++ byte ∷ [])
more_text text line lines byte is = ap (λ t. t ++ byte ∷ []) is ∙ append_assoc (join_lines lines) line (byte ∷ [])

-- a line is too long
pub line_too_long : (text : List ℕ) (reader : Reader) (byte : ℕ) (fault : CheckFault) → Stands text reader → byte ≢ 10 → length reader.line.items + 1 ≡ 64 → fault ≡ BadJournal reader.place.number → Refuses reader.place.shards (text ++ byte ∷ []) fault
line_too_long text reader byte fault stands other size is =
    let whole = length-append reader.line.items (byte ∷ []) in
    subst (Refuses reader.place.shards (text ++ byte ∷ [])) (sym is)
    (λ later.
    outside_long stands.lines reader.place (text ++ byte ∷ []) (reader.line.items ++ byte ∷ []) later reader.place.shards_in reader.place.begun_few reader.place.number_in stands.at
    (more_text text reader.line.items stands.lines byte stands.is) (no_feed-append reader.line.items (byte ∷ []) stands.unended (other, tt)) (omega (arith, whole)))

-- a line was ended, and may stand or not
pub line_ended : {A : Type 0} (text : List ℕ) (before after : Reader) (byte : ℕ) (line : List ℕ) (result : Result A CheckFault) → (stands : Stands text before) → byte ≡ 10 → line ≡ before.line.items ++ byte ∷ [] → IsLine line
    → MatchResult result (λ _. IsAt (stands.lines ++ line ∷ []) after.place) (Stops stands.lines line before.place) → OnOk result (after.line.items ≡ [])
    → MatchResult result (λ _. Stands (text ++ byte ∷ []) after) (Refuses before.place.shards (text ++ byte ∷ []))
line_ended text before after byte line (Ok a) stands feed says is_line at empty = record {
  lines = stands.lines ++ line ∷ [];
  at = at;
  is = more_text text before.line.items stands.lines byte stands.is ∙ ap (λ t. join_lines stands.lines ++ t) (sym says) ∙ sym (joined-push stands.lines line)
      ∙ sym (append-nil (join_lines (stands.lines ++ line ∷ []))) ∙ ap (λ t. join_lines (stands.lines ++ line ∷ []) ++ t) (sym empty);
  unended = subst HasNoFeed (sym empty) tt;
  short = let none = ap (λ t. length t) empty in omega (arith, none);
}
line_ended text before after byte line (Err Read) stands feed says is_line stops empty = stops
line_ended text before after byte line (Err (BadJournal number)) stands feed says is_line stops empty =
    λ later.
    subst (IsFirstOutside before.place.shards ((text ++ byte ∷ []) ++ later)) (sym stops.0)
    (outside_line stands.lines before.place (text ++ byte ∷ []) line later before.place.shards_in before.place.begun_few before.place.number_in stands.at
    (more_text text before.line.items stands.lines byte stands.is ∙ ap (λ t. join_lines stands.lines ++ t) (sym says)) is_line stops.1)
line_ended text before after byte line (Err (NotLegal number)) stands feed says is_line stops empty = stops
line_ended text before after byte line (Err (NotDrained colour)) stands feed says is_line stops empty = stops
line_ended text before after byte line (Err Memory) stands feed says is_line stops empty = tt

-- ---- what is known

pub nothing_said : (P : Type 0) (Q : Line → Type 0) (r : Option Line) → ((x : Line) → r ≡ Some x → ⊥) → MatchOption r P Q → P
nothing_said P Q None not is = is
nothing_said P Q (Some x) not is = absurd (not x refl)

pub on_ok : {A E : Type 0} (P : Type 0) (r : Result A E) → false ≡ is_err r → OnOk r P → P
on_ok P (Ok a) fine is = is
on_ok P (Err e) fine is = absurd (cc)

pub stands_of : (Heard : Walk → Type 0) (setup : Setup) (text : List ℕ) (reader : Reader) → Knows Heard setup text reader → Stands text reader
stands_of Heard setup text reader k = record { lines = k.lines; at = k.heard.at; is = k.is; unended = k.unended; short = k.short }

-- no line of a journal is empty
nothing_read : (walk : Walk) → [] ≡ walk_text walk → walk ≡ start
nothing_read start is = refl
nothing_read (within done last left) is = absurd (
    let long = ap (λ t. length t) is in
    let a = length-append (journal done) (shard_line (length done) (length last + left) ++ flat_map entry_line last) in
    let b = length-append (shard_line (length done) (length last + left)) (flat_map entry_line last) in omega (arith, long, a, b)
    )

-- what is known, whoever has heard it
pub unheard : (Heard : Walk → Type 0) (setup : Setup) (text : List ℕ) (reader : Reader) → Knows Heard setup text reader → Knows nobody setup text reader
unheard Heard setup text reader k = record {
  lines = k.lines;
  heard = record { at = k.heard.at; judged = k.heard.judged; told = tt };
  is = k.is;
  unended = k.unended;
  short = k.short;
}

-- nothing was read, and a listener has heard nothing
pub silent_new : (Heard : Walk → Type 0) (setup : Setup) (reader : Reader) → Heard start → Knows nobody setup [] reader → Knows Heard setup [] reader
silent_new Heard setup reader silent k = record {
  lines = k.lines;
  heard = record { at = k.heard.at; judged = k.heard.judged; told = subst Heard (sym (nothing_read k.heard.at.walk (nothing_in (join_lines k.lines) reader.line.items k.is ∙ k.heard.at.is))) silent };
  is = k.is;
  unended = k.unended;
  short = k.short;
}
  where
    nothing_in : (a b : List ℕ) → [] ≡ a ++ b → [] ≡ a
    nothing_in [] b is = refl
    nothing_in (x ∷ a) b is = absurd (cc)

-- before the first byte
pub knows_new : (Heard : Walk → Type 0) (setup : Setup) (reader : Reader) → Heard start → IsAt [] reader.place → reader.line.items ≡ [] → reader.judge.setup ≡ setup → reader.judge.fault ≡ None → AreInitialWatches setup (colours_of setup) reader.judge.watches.items
    → reader.judge.cores.items ≡ replicate (shape_of setup).cores (record { ran = 0; stolen_in = 0; stolen_out = 0 }) → Knows Heard setup [] reader
knows_new Heard setup reader silent at empty same none blank cores = record {
  lines = [];
  heard = record {
    at = at;
    judged = subst (λ w. IsJudged setup (histories_in w) reader.judge) (sym (nothing_read at.walk (at.is))) (judged_new setup reader.judge same none blank cores);
    told = subst Heard (sym (nothing_read at.walk (at.is))) silent;
  };
  is = sym empty;
  unended = subst HasNoFeed (sym empty) tt;
  short = (let none = ap (λ t. length t) empty in omega (arith, none));
}

-- a byte more, which ends no line
pub knows_byte : (Heard : Walk → Type 0) (setup : Setup) (text : List ℕ) (before after : Reader) (byte : ℕ) → Knows Heard setup text before → ((lines : List (List ℕ)) → IsHeard Heard setup lines before.place before.judge → IsHeard Heard setup lines after.place after.judge)
    → after.line.items ≡ before.line.items ++ byte ∷ [] → byte ≢ 10 → length before.line.items + 1 < 64 → Knows Heard setup (text ++ byte ∷ []) after
knows_byte Heard setup text before after byte k same is other short = record {
  lines = k.lines;
  heard = same k.lines k.heard;
  is = more_text text before.line.items k.lines byte k.is ∙ ap (λ t. join_lines k.lines ++ t) (sym is);
  unended = subst HasNoFeed (sym is) (no_feed-append before.line.items (byte ∷ []) k.unended (other, tt));
  short = (let long = ap (λ t. length t) is in omega (arith, long, length-append before.line.items (byte ∷ [])));
}

-- a line was ended
pub knows_line : {A : Type 0} (Heard Now : Walk → Type 0) (setup : Setup) (text : List ℕ) (before after : Reader) (byte : ℕ) (line : List ℕ) (result : Result A CheckFault) → (k : Knows Heard setup text before) → line ≡ before.line.items ++ byte ∷ []
    → OnOk result (IsHeard Now setup (k.lines ++ line ∷ []) after.place after.judge) → OnOk result (after.line.items ≡ []) → OnOk result (Knows Now setup (text ++ byte ∷ []) after)
knows_line Heard Now setup text before after byte line (Ok a) k says heard empty = record {
  lines = k.lines ++ line ∷ [];
  heard = heard;
  is = more_text text before.line.items k.lines byte k.is ∙ ap (λ t. join_lines k.lines ++ t) (sym says) ∙ sym (joined-push k.lines line)
      ∙ sym (append-nil (join_lines (k.lines ++ line ∷ []))) ∙ ap (λ t. join_lines (k.lines ++ line ∷ []) ++ t) (sym empty);
  unended = subst HasNoFeed (sym empty) tt;
  short = let none = ap (λ t. length t) empty in omega (arith, none);
}
knows_line Heard Now setup text before after byte line (Err fault) k says heard empty = tt

judged_line : (setup : Setup) (walk : Walk) (said : Line) (judge after : Judge) (begun line : ℕ) → MayCome walk said → begun ≡ begun_in (with_line walk said) → line ≡ begun_in walk + count_in walk + 1 → count_in walk < 4294967295
    → IsJudged setup (histories_in walk) judge → HearsLine judge begun line said after → IsJudged setup (histories_in (with_line walk said)) after
judged_line setup start (said_line.Shard shard count) judge after begun line may is number few judged hears = judged_shard setup [] after (subst (IsJudged setup []) (sym hears) judged)
judged_line setup (within done last left) (said_line.Shard shard count) judge after begun line may is number few judged hears =
    judged_shard setup (done ++ last ∷ []) after (subst (IsJudged setup (done ++ last ∷ [])) (sym hears) judged)
judged_line setup start (said_line.Entry e) judge after begun line may is number few judged hears = (let some = may.0 in absurd (omega arith))
judged_line setup (within done last left) (said_line.Entry e) judge after begun line may is number few judged hears = judged_entry setup done last e judge after begun line is (omega arith) few may.1 judged hears

-- a line was read and heard
pub heard_line : (Heard Now : Walk → Type 0) (setup : Setup) (lines : List (List ℕ)) (line : List ℕ) (before after : Place) (said : Line) (judge next : Judge) → (heard : IsHeard Heard setup lines before judge) → MayStand lines line before heard.at after said
    → HearsLine judge after.begun before.number said next → ((walk : Walk) → MayCome walk said → Heard walk → Now (with_line walk said)) → IsHeard Now setup (lines ++ line ∷ []) after next
heard_line Heard Now setup lines line before after said judge next heard may hears listens =
    let at = heard.at in
    let number = at.number in
    let lines_are = at.counted in
    let entries = at.entries in
    let few = before.entries_few in
    let high = before.number_in in
    record {
      at = may.next;
      judged = subst (λ w. IsJudged setup (histories_in w) next) (sym may.goes)
          (judged_line setup at.walk said judge next after.begun before.number may.may (may.next.begun ∙ ap begun_in may.goes) (omega (arith, number, lines_are)) (omega (arith, entries, few, high)) heard.judged hears);
      told = subst Now (sym may.goes) (listens at.walk may.may heard.told);
    }

-- ---- where the text has ended

-- what was refused stays refused with more behind it
refused_more : (shards : ℕ) (text more whole : List ℕ) (fault : CheckFault) → Refuses shards text fault → whole ≡ text ++ more → Refuses shards whole fault
refused_more shards text more whole Read refuses is = refuses
refused_more shards text more whole (BadJournal number) refuses is =
    λ later. subst (λ t. IsFirstOutside shards t number) (sym (append_assoc text more later) ∙ ap (λ t. t ++ later) (sym is)) (refuses (more ++ later))
refused_more shards text more whole (NotLegal number) refuses is = refuses
refused_more shards text more whole (NotDrained colour) refuses is = refuses
refused_more shards text more whole Memory refuses is = tt

-- a line isn't ended, or there are too few
pub text_short : (text : List ℕ) (reader : Reader) → Stands text reader → (reader.place.left ≡ 0 → reader.place.begun ≡ reader.place.shards → reader.line.items ≡ [] → ⊥) → IsFirstOutside reader.place.shards text reader.place.number
text_short text reader stands not_whole =
    outside_by stands.lines reader.place text reader.line.items reader.place.shards_in reader.place.begun_few reader.place.number_in stands.at stands.is
    (λ line later is_line same within begins. no_line reader.line.items line later stands.unended is_line same)
    (λ none. not_whole)

-- all was read
pub record IsWhole (shards : ℕ) (walk : Walk) : Type 0 where
  pub fit : AreFit shards (histories_in walk)
  pub is : walk_text walk ≡ journal (histories_in walk)
  pub counted : count_in walk ≡ entries_in (histories_in walk)

pub walk_whole : (shards : ℕ) (walk : Walk) → IsFitWalk walk → left_in walk ≡ 0 → begun_in walk ≡ shards → IsWhole shards walk
walk_whole shards start fit none all = record { fit = record { many = all; fit = tt }; is = refl; counted = refl }
walk_whole shards (within done last left) fit none all =
    let whole : length last + left ≡ length last = omega arith in
    record {
      fit = record { many = length-append done (last ∷ []) ∙ all; fit = all_append IsFitHistory done (last ∷ []) fit.0 ((fit.1, (let few = fit.2 in omega arith)), tt) };
      is = ap (λ n. journal done ++ (shard_line (length done) n ++ flat_map entry_line last)) whole ∙ sym (journal-push done last);
      counted = sym (entries_in-push done last);
    }

-- ---- a piece more

-- what was read of the whole with a piece more
pub piece_read : (Heard Now : Walk → Type 0) (setup : Setup) (whole left now : Option (List ℕ)) (count : ℕ) (room : List ℕ) (before : Reader) → HasRead Heard setup whole left before → Takes left now (Took count) room → (after : Reader)
    → ((text : List ℕ) → Knows Heard setup text before → Knows Now setup (text ++ take count room) after) → HasRead Now setup whole now after
piece_read Heard Now setup None left now count room before read takes after goes = nothing left read takes
  where
    nothing : (left : Option (List ℕ)) → left ≡ None → Takes left now (Took count) room → now ≡ None
    nothing None e takes = takes
    nothing (Some l) e takes = absurd (cc)
piece_read Heard Now setup (Some whole) None now count room before read takes after goes = absurd read
piece_read Heard Now setup (Some whole) (Some left) now count room before read takes after goes =
    subst (λ n. HasRead Now setup (Some whole) n after) (sym takes.1)
    (read.0 ++ take count room, read.1 ∙ ap (λ t. read.0 ++ t) takes.2 ∙ sym (append_assoc read.0 (take count room) takes.0), goes read.0 read.2)

-- a piece that may not stand
pub piece_refused : (Heard : Walk → Type 0) (setup : Setup) (shards : ℕ) (whole left now : Option (List ℕ)) (count : ℕ) (room : List ℕ) (before : Reader) (fault : CheckFault) → shards ≡ (shape_of setup).shards → HasRead Heard setup whole left before → Takes left now (Took count) room
    → ((text : List ℕ) → Stands text before → Refuses shards (text ++ take count room) fault) → Finds setup whole (Err fault)
piece_refused Heard setup shards None left now count room before fault same read takes refuses = tt
piece_refused Heard setup shards (Some whole) None now count room before fault same read takes refuses = absurd read
piece_refused Heard setup shards (Some whole) (Some left) now count room before fault same read takes refuses =
    found fault (refused_more shards (read.0 ++ take count room) takes.0 whole fault (refuses read.0 (stands_of Heard setup read.0 before read.2)) (read.1 ∙ ap (λ t. read.0 ++ t) takes.2 ∙ sym (append_assoc read.0 (take count room) takes.0)))
  where
    found : (fault : CheckFault) → Refuses shards whole fault → Finds setup (Some whole) (Err fault)
    found Read refuses = tt
    found (BadJournal number) refuses = subst (λ n. IsFirstOutside n whole number) same (subst (λ t. IsFirstOutside shards t number) (append-nil whole) (refuses []))
    found (NotLegal number) refuses = absurd refuses
    found (NotDrained colour) refuses = absurd refuses
    found Memory refuses = tt

-- the text has ended
pub text_ended : (Heard : Walk → Type 0) (setup : Setup) (whole left now : Option (List ℕ)) (room : List ℕ) (reader : Reader) (result : Result Report CheckFault) → HasRead Heard setup whole left reader → Takes left now End room
    → ((text : List ℕ) → Knows Heard setup text reader → Says setup text result) → Finds setup whole result
text_ended Heard setup None left now room reader result read takes says = tt
text_ended Heard setup (Some whole) None now room reader result read takes says = absurd read
text_ended Heard setup (Some whole) (Some left) now room reader result read takes says =
    subst (λ t. Says setup t result) (sym (read.1 ∙ ap (λ t. read.0 ++ t) takes.0 ∙ append-nil read.0)) (says read.0 read.2)

-- ---- many bytes

pub bytes_refused : (shards : ℕ) (text bytes : List ℕ) (k : ℕ) (fault : CheckFault) → k < length bytes → Refuses shards ((text ++ take k bytes) ++ get_or bytes k 0 ∷ []) fault → Refuses shards (text ++ bytes) fault
bytes_refused shards text bytes k fault below refuses =
    refused_more shards ((text ++ take k bytes) ++ get_or bytes k 0 ∷ []) (drop (k + 1) bytes) (text ++ bytes) fault refuses
    (ap (λ b. text ++ b) (sym (take-append-drop (k + 1) bytes) ∙ ap (λ t. t ++ drop (k + 1) bytes) (take_more bytes k 0 below))
    ∙ sym (append_assoc text (take k bytes ++ get_or bytes k 0 ∷ []) (drop (k + 1) bytes))
    ∙ ap (λ t. t ++ drop (k + 1) bytes) (sym (append_assoc text (take k bytes) (get_or bytes k 0 ∷ []))))

pub byte_more : (text bytes : List ℕ) (k : ℕ) → k < length bytes → (text ++ take k bytes) ++ get_or bytes k 0 ∷ [] ≡ text ++ take (k + 1) bytes
byte_more text bytes k below = append_assoc text (take k bytes) (get_or bytes k 0 ∷ []) ∙ ap (λ t. text ++ t) (sym (take_more bytes k 0 below))

-- ---- no bytes

pub some_items : (n : ℕ) (items : List ℕ) → length items ≡ n → false ≡ eqb n 0 → items ≡ [] → ⊥
some_items n items long told empty = let zero_is : n ≡ 0 = sym long ∙ ap (λ t. length t) empty in let same : false ≡ true = told ∙ ap (λ k. eqb k 0) zero_is in cc

pub no_items : (n : ℕ) (items : List ℕ) → length items ≡ n → true ≡ eqb n 0 → items ≡ []
no_items n items long told = nil_from_length items (long ∙ true-eqb n 0 told)

-- what holds holds at an answer
pub if_ok : {A E P : Type 0} (r : Result A E) → P → OnOk r P
if_ok (Ok a) p = p
if_ok (Err e) p = tt

-- before the first piece
pub first_read : (Heard : Walk → Type 0) (setup : Setup) (told : Option (List ℕ)) (reader : Reader) → Heard start → Knows nobody setup [] reader → HasRead Heard setup told told reader
first_read Heard setup None reader silent k = refl
first_read Heard setup (Some text) reader silent k = ([], refl, silent_new Heard setup reader silent k)
