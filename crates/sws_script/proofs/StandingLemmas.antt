-- How a text stands when its first lines have been read.
use Rattle.std.proofs.Common.{zero, suc, ◌≡◌, ◌≢◌, ℕ, ◌+◌, ◌-◌, ◌<◌, ◌≤◌, min, Bool, true, false, cond, List, [], ◌∷◌, ◌++◌, length, take, Option, Some, None, Err, refl, sym, ap, ◌∙◌, subst, arith, append_assoc, append-nil, length-append}
use Rattle.std.proofs.lemmas.List.{take_at}
use Rattle.std.proofs.lemmas.Bool.{false≢true}
use Rattle.std.proofs.lemmas.Slice.Eq.{bytes_eq-Decides}
use Rattle.std.proofs.lemmas.Bool.Decides.{same_from_decides}
use Rattle.std.specs.Prelude.{codes, option_to_list, option_map}
use Rattle.std.specs.List.{AllZip}
use Rattle.std.specs.Str.{bytes_eq}
use Rattle.sws_script.specs.declared.contents.Contents.{Contents}
use Rattle.sws_script.specs.declared.parser.Parser.{Parser}
use Rattle.sws_script.specs.declared.fault.ScriptFault.{ScriptFault}
use Rattle.sws_script.specs.declared.fault.ScriptFault.TheVariants.{Bad, TooMany, Memory}
use Rattle.sws_script.specs.declared.line.Line.{Line}
use Rattle.sws_script.specs.declared.line.Line.TheVariants as line
use Rattle.sws_script.specs.declared.place.Place.{Place}
use Rattle.sws_script.specs.declared.place.Place.TheVariants.{ScheduleHead, Steps, ScriptHead, Top, Conn, Step, Cut, Piece, Pause, Fault}
use Rattle.sws_script.specs.Lines.{SpellsLine, IsSpelled}
use Rattle.sws_script.specs.Inputs.{input_lines, script_lines, schedule_lines, run_line}
use Rattle.sws_script.specs.Grammar.{lines_of, size_of, Spells, Begin, MayStand, IsFirstOutside, IsFirstTooMany, is_conn, conns_in, IsCause}
use Rattle.sws_script.specs.Limits.{byte_limit}
use Rattle.sws_link.specs.Limits.{conn_limit}
use Rattle.sws_script.specs.Order.{in_script, place_after, State, total_after, state_of, state_after, run, start, grown, conns_of, input_of, no_contents}
use Rattle.sws_text.specs.Lines.{IsFirstLine}
use Rattle.sws_script.specs.Parsers.{state}
use Rattle.sws_script.specs.Adding.{AddsSpelled, AddsLine}
use Rattle.sws_script.proofs.LineLemmas.{SpellsLine-unique}
use Rattle.sws_script.proofs.OrderLemmas.{run-append, run-last, run-middle, input-accepted, input-fits, at}
use Rattle.sws_script.proofs.PlaceLemmas.{lines_to, head_lines, IsPlaced, grows, lines-in_script}
use Rattle.sws_text.proofs.LineLemmas.{GoesTo, first-goes}
use Rattle.sws_script.proofs.SplitLemmas.{size_of-last, AllZip-middle, AllZip-append, AreLines, AreLines-middle, AreLines-append, spells-of, to-spelled, spelled-unique}

pub record Stands (schedule : Bool) (cores : ℕ) (text rest : List ℕ) (count : ℕ) (parser : Parser) : Type 0 where
  pub done : List (List ℕ)
  pub counted : length done ≡ count
  pub lines : lines_of text ≡ done ++ lines_of rest
  pub ended : 0 < length rest → size_of done + length rest ≡ length text
  pub whole : length text ≤ size_of done + length rest
  pub few_lines : count + length rest ≤ length text
  pub within : length text ≤ length rest + 16777216
  pub said : List Line
  pub spelled : AllZip IsSpelled done said
  pub goes : run cores (start schedule) said ≡ Some (state parser)
  pub is : said ≡ lines_to schedule parser.place parser.contents
  pub placed : IsPlaced schedule parser.place parser.contents
  pub conns : conns_in done ≡ length (conns_of parser.contents)
  pub few : length (conns_of parser.contents) ≤ 1024
  pub total : parser.total ≤ 10000000
  pub cores_are : parser.cores ≡ cores

-- ---- the beginning

starts : (schedule : Bool) → ([] ≡ lines_to schedule (start schedule).place no_contents) × IsPlaced schedule (start schedule).place no_contents
starts true = (refl, record { opened = refl; none = λ off. refl; given = λ on. refl; fresh = λ on. refl; bare = λ off. refl })
starts false = (refl, record { opened = refl; none = λ off. refl; given = λ on. absurd (false≢true on); fresh = λ on. refl; bare = λ off. refl })

no_total : (schedule : Bool) → (start schedule).total ≡ 0
no_total true = refl
no_total false = refl

pub Stands-none : (schedule : Bool) (cores : ℕ) (text : List ℕ) (parser : Parser) → state parser ≡ start schedule → parser.contents ≡ no_contents → parser.cores ≡ cores → Stands schedule cores text text 0 parser
Stands-none schedule cores text parser is_state is_contents is_cores =
    let begins = starts schedule in
    let place = ap (λ (s : State). s.place) is_state in
    let total : parser.total ≡ 0 = ap (λ (s : State). s.total) is_state ∙ no_total schedule in
    record {
      done = [];
      counted = refl;
      lines = refl;
      ended = λ some. omega arith;
      whole = omega arith;
      few_lines = omega arith;
      within = omega arith;
      said = [];
      spelled = tt;
      goes = ap Some (sym is_state);
      is = begins.0 ∙ ap (λ p. lines_to schedule p no_contents) (sym place) ∙ ap (lines_to schedule parser.place) (sym is_contents);
      placed = subst (IsPlaced schedule parser.place) (sym is_contents) (subst (λ p. IsPlaced schedule p no_contents) (sym place) begins.1);
      conns = ap (λ c. length (conns_of c)) (sym is_contents);
      few = subst (λ c. length (conns_of c) ≤ 1024) (sym is_contents) (omega arith);
      total = omega arith;
      cores_are = is_cores;
    }

-- ---- connections are counted

abbrev pub is_conn_line : Line → Bool
is_conn_line line.ScheduleHead = false
is_conn_line (line.Run core count) = false
is_conn_line line.End = false
is_conn_line line.ScriptHead = false
is_conn_line line.Conn = true
is_conn_line (line.Step count) = false
is_conn_line (line.Cut count) = false
is_conn_line (line.Item item) = false

conn-text : (text : List ℕ) (says : Line) → IsSpelled text says → is_conn_line says ≡ true → text ≡ codes "conn"
conn-text text line.ScheduleHead is e = absurd (false≢true e)
conn-text text (line.Run core count) is e = absurd (false≢true e)
conn-text text line.End is e = absurd (false≢true e)
conn-text text line.ScriptHead is e = absurd (false≢true e)
conn-text text line.Conn is e = is.spells
conn-text text (line.Step count) is e = absurd (false≢true e)
conn-text text (line.Cut count) is e = absurd (false≢true e)
conn-text text (line.Item item) is e = absurd (false≢true e)

conn_spelled : (text : List ℕ) → text ≡ codes "conn" → IsSpelled text line.Conn
conn_spelled text e = record { spells = e; is = tt }

pub is_conn-line : (text : List ℕ) (says : Line) → IsSpelled text says → is_conn text ≡ is_conn_line says
is_conn-line text says is = same_from_decides {P = text ≡ codes "conn"} (is_conn text) (is_conn_line says) (bytes_eq-Decides text (codes "conn"))
    (conn-text text says is, λ e. ap is_conn_line (SpellsLine-unique text says line.Conn is (conn_spelled text e)))

-- one, or none
abbrev one_if : Bool → ℕ
one_if test = cond test 1 0

length-option_map : {A : Type 0} (f : A → A) (o : Option A) → length (option_to_list (option_map f o)) ≡ length (option_to_list o)
length-option_map f None = refl
length-option_map f (Some x) = refl

conns-changed : (contents : Contents) (f : Rattle.sws_script.specs.declared.input.ScriptConn.ScriptConn → Rattle.sws_script.specs.declared.input.ScriptConn.ScriptConn)
    → length (contents.conns ++ option_to_list (option_map f contents.open_conn)) ≡ length (conns_of contents)
conns-changed contents f =
    length-append contents.conns (option_to_list (option_map f contents.open_conn)) ∙ ap (λ n. length contents.conns + n) (length-option_map f contents.open_conn)
    ∙ sym (length-append contents.conns (option_to_list contents.open_conn))

pub length-conns_of-grown : (contents : Contents) (says : Line) → length (conns_of (grown contents says)) ≡ one_if (is_conn_line says) + length (conns_of contents)
length-conns_of-grown contents line.ScheduleHead = omega arith
length-conns_of-grown contents (line.Run core count) = omega arith
length-conns_of-grown contents line.End = omega arith
length-conns_of-grown contents line.ScriptHead = omega arith
length-conns_of-grown contents line.Conn = omega (arith, length-append (conns_of contents) (Rattle.sws_script.specs.Order.bare_conn ∷ []))
length-conns_of-grown contents (line.Step count) = let same = conns-changed contents (Rattle.sws_script.specs.Order.with_step count) in omega arith
length-conns_of-grown contents (line.Cut count) = let same = conns-changed contents (Rattle.sws_script.specs.Order.with_cut count) in omega arith
length-conns_of-grown contents (line.Item item) = let same = conns-changed contents (Rattle.sws_script.specs.Order.with_item item) in omega arith

conns_in-last : (done : List (List ℕ)) (text : List ℕ) → conns_in (done ++ text ∷ []) ≡ one_if (is_conn text) + conns_in done
conns_in-last [] text = refl
conns_in-last (d ∷ done) text = let more = conns_in-last done text in omega arith

-- ---- one line more

AllZip-last : (done : List (List ℕ)) (said : List Line) (text : List ℕ) (says : Line) → AllZip IsSpelled done said → IsSpelled text says → AllZip IsSpelled (done ++ text ∷ []) (said ++ says ∷ [])
AllZip-last done said text says zip is = AllZip-append IsSpelled done (text ∷ []) said (says ∷ []) zip (is, tt)

some_state : (a b : State) → Some a ≡ Some b → a ≡ b
some_state a b e = cc

place_went : (cores : ℕ) (s t : State) (says : Line) → state_after cores s says ≡ Some t → place_after s.place says ≡ Some t.place
place_went cores s t says e = by_parts (place_after s.place says) (total_after cores s.total says) e
  where
    none_some : (a : State) → None ≡ Some a → ⊥
    none_some a e = cc

    by_parts : (p : Option Place) (n : Option ℕ) → state_of p n ≡ Some t → p ≡ Some t.place
    by_parts None n e = absurd (none_some t e)
    by_parts (Some p) None e = absurd (none_some t e)
    by_parts (Some p) (Some n) e = ap (λ (u : State). Some u.place) (some_state _ t e)

pub Stands-more : (schedule : Bool) (cores : ℕ) (text rest : List ℕ) (count : ℕ) (old new : Parser) (words after : List ℕ) → Stands schedule cores text rest count old
    → IsFirstLine rest words after → length text ≤ length after + 16777216 → AddsSpelled old new words → Stands schedule cores text after (count + 1) new
Stands-more schedule cores text rest count old new words after stands first within adds =
    let to = first-goes rest words after first in
    let says = adds.says in
    let went : state_after cores (state old) says ≡ Some (state new) = ap (λ k. state_after k (state old) says) (sym stands.cores_are) ∙ adds.adds.state_is in
    let more = grows schedule old.place new.place old.contents says stands.placed (place_went cores (state old) (state new) says went) in
    let shorter = to.shorter in
    let no_more = to.no_more in
    let size = size_of-last stands.done words in
    let whole = stands.whole in
    let few_lines = stands.few_lines in
    let counted = stands.counted in
    let conns_now : length (conns_of new.contents) ≡ one_if (is_conn_line says) + length (conns_of old.contents) =
    ap (λ c. length (conns_of c)) adds.adds.contents_are ∙ length-conns_of-grown old.contents says in
    record {
      done = stands.done ++ words ∷ [];
      counted = omega (arith, length-append stands.done (words ∷ []));
      lines = stands.lines ∙ ap (λ l. stands.done ++ l) to.lines ∙ sym (append_assoc stands.done (words ∷ []) (lines_of after));
      ended = λ some. let before = stands.ended (omega arith) in let gone = to.ended some in omega arith;
      whole = omega arith;
      few_lines = omega arith;
      within = within;
      said = stands.said ++ says ∷ [];
      spelled = AllZip-last stands.done stands.said words says stands.spelled adds.spelled;
      goes = run-last cores (start schedule) (state old) (state new) stands.said says stands.goes went;
      is = ap (λ l. l ++ says ∷ []) stands.is ∙ sym more.lines ∙ ap (lines_to schedule new.place) (sym adds.adds.contents_are);
      placed = subst (IsPlaced schedule new.place) (sym adds.adds.contents_are) more.placed;
      conns = conns_in-last stands.done words ∙ ap (λ n. n + conns_in stands.done) (ap one_if (is_conn-line words says adds.spelled))
          ∙ ap (λ n. one_if (is_conn_line says) + n) stands.conns ∙ sym conns_now;
      few = room says adds.room conns_now;
      total = adds.adds.few;
      cores_are = adds.adds.cores ∙ stands.cores_are;
    }
  where
    room : (says : Line) → (says ≡ line.Conn → length (conns_of old.contents) ≢ 1024) → length (conns_of new.contents) ≡ one_if (is_conn_line says) + length (conns_of old.contents)
        → length (conns_of new.contents) ≤ 1024
    room line.ScheduleHead free e = let few = stands.few in omega arith
    room (line.Run core count) free e = let few = stands.few in omega arith
    room line.End free e = let few = stands.few in omega arith
    room line.ScriptHead free e = let few = stands.few in omega arith
    room line.Conn free e = let few = stands.few in let not = free refl in omega arith
    room (line.Step count) free e = let few = stands.few in omega arith
    room (line.Cut count) free e = let few = stands.few in omega arith
    room (line.Item item) free e = let few = stands.few in omega arith

-- ---- what has been read may stand

abbrev completion : Place → List Line
completion ScheduleHead = line.ScheduleHead ∷ line.End ∷ line.ScriptHead ∷ []
completion Steps = line.End ∷ line.ScriptHead ∷ []
completion ScriptHead = line.ScriptHead ∷ []
completion _ = []

abbrev completion_texts : Place → List (List ℕ)
completion_texts ScheduleHead = codes "sws-schedule 1" ∷ codes "end" ∷ codes "sws-script 1" ∷ []
completion_texts Steps = codes "end" ∷ codes "sws-script 1" ∷ []
completion_texts ScriptHead = codes "sws-script 1" ∷ []
completion_texts _ = []

completion_spelled : (place : Place) → AllZip IsSpelled (completion_texts place) (completion place)
completion_spelled ScheduleHead = (record { spells = refl; is = tt }, (record { spells = refl; is = tt }, (record { spells = refl; is = tt }, tt)))
completion_spelled Steps = (record { spells = refl; is = tt }, (record { spells = refl; is = tt }, tt))
completion_spelled ScriptHead = (record { spells = refl; is = tt }, tt)
completion_spelled _ = tt

completion_goes : (cores total : ℕ) (place : Place) → (end : State) × (run cores (at place total) (completion place) ≡ Some end)
completion_goes cores total ScheduleHead = (at Top total, refl)
completion_goes cores total Steps = (at Top total, refl)
completion_goes cores total ScriptHead = (at Top total, refl)
completion_goes cores total place = (at place total, refl)

no_conns : (contents : Contents) → contents.conns ≡ [] → contents.open_conn ≡ None → conns_of contents ≡ []
no_conns contents e f = ap (λ cs. cs ++ option_to_list contents.open_conn) e ∙ ap option_to_list f

bare_lines : (schedule : Bool) (contents : Contents) → conns_of contents ≡ [] → head_lines schedule contents.steps ++ line.ScriptHead ∷ [] ≡ input_lines schedule (input_of contents)
bare_lines true contents e = ap (λ cs. schedule_lines contents.steps ++ script_lines cs) (sym e)
bare_lines false contents e = ap script_lines (sym e)

steps_lines : (schedule : Bool) (contents : Contents) → schedule ≡ true → conns_of contents ≡ []
    → (line.ScheduleHead ∷ Rattle.std.proofs.Common.map run_line contents.steps) ++ line.End ∷ line.ScriptHead ∷ [] ≡ input_lines schedule (input_of contents)
steps_lines true contents on e =
    sym (append_assoc (line.ScheduleHead ∷ Rattle.std.proofs.Common.map run_line contents.steps) (line.End ∷ []) (line.ScriptHead ∷ [])) ∙ bare_lines true contents e
steps_lines false contents on e = absurd (false≢true on)

fresh_lines : (schedule : Bool) (contents : Contents) → schedule ≡ true → contents.steps ≡ [] → conns_of contents ≡ []
    → line.ScheduleHead ∷ line.End ∷ line.ScriptHead ∷ [] ≡ input_lines schedule (input_of contents)
fresh_lines true contents on e f = ap (λ s. schedule_lines s ++ line.ScriptHead ∷ []) (sym e) ∙ bare_lines true contents f
fresh_lines false contents on e f = absurd (false≢true on)

completed : (schedule : Bool) (place : Place) (contents : Contents) → IsPlaced schedule place contents → lines_to schedule place contents ++ completion place ≡ input_lines schedule (input_of contents)
completed schedule ScheduleHead contents placed = fresh_lines schedule contents (placed.given refl) (placed.fresh refl) (no_conns contents (placed.bare refl) placed.opened)
completed schedule Steps contents placed = steps_lines schedule contents (placed.given refl) (no_conns contents (placed.bare refl) placed.opened)
completed schedule ScriptHead contents placed = bare_lines schedule contents (no_conns contents (placed.bare refl) placed.opened)
completed schedule Top contents placed = append-nil (input_lines schedule (input_of contents))
completed schedule Conn contents placed = append-nil (input_lines schedule (input_of contents))
completed schedule Step contents placed = append-nil (input_lines schedule (input_of contents))
completed schedule Cut contents placed = append-nil (input_lines schedule (input_of contents))
completed schedule Piece contents placed = append-nil (input_lines schedule (input_of contents))
completed schedule Pause contents placed = append-nil (input_lines schedule (input_of contents))
completed schedule Fault contents placed = append-nil (input_lines schedule (input_of contents))

abbrev goes_on : ℕ → List Line → Option State → Option State
goes_on cores lines o = Rattle.std.specs.Prelude.option_and_then (λ next. run cores next lines) o

begin_of : (schedule : Bool) (cores : ℕ) (done : List (List ℕ)) (said : List Line) (now : State) (contents : Contents) → AllZip IsSpelled done said
    → run cores (start schedule) said ≡ Some now → said ≡ lines_to schedule now.place contents → IsPlaced schedule now.place contents → Begin schedule cores done
begin_of schedule cores done said now contents spelled went is placed =
    let end = completion_goes cores now.total now.place in
    let whole : said ++ completion now.place ≡ input_lines schedule (input_of contents) =
    ap (λ l. l ++ completion now.place) is ∙ completed schedule now.place contents placed in
    let goes : run cores (start schedule) (said ++ completion now.place) ≡ Some end.0 =
    run-append cores (start schedule) said (completion now.place) ∙ ap (goes_on cores (completion now.place)) went ∙ end.1 in
    let first = spells-of done said spelled in
    let last = spells-of (completion_texts now.place) (completion now.place) (completion_spelled now.place) in
    record {
      input = input_of contents;
      more = completion_texts now.place;
      is = input-fits schedule cores (input_of contents) end.0 (subst AreLines whole (AreLines-append said (completion now.place) first.1 last.1)) placed.none
          (ap (run cores (start schedule)) (sym whole) ∙ goes);
      spell = subst (λ l. AllZip SpellsLine (done ++ completion_texts now.place) l) whole
          (AllZip-append SpellsLine done (completion_texts now.place) said (completion now.place) first.0 last.0);
    }

Stands-begin : (schedule : Bool) (cores : ℕ) (text rest : List ℕ) (count : ℕ) (parser : Parser) (stands : Stands schedule cores text rest count parser) → Begin schedule cores stands.done
Stands-begin schedule cores text rest count parser stands =
    begin_of schedule cores stands.done stands.said (state parser) parser.contents stands.spelled stands.goes stands.is stands.placed

taken : (schedule : Bool) (cores : ℕ) (text rest : List ℕ) (count : ℕ) (parser : Parser) (stands : Stands schedule cores text rest count parser) → take count (lines_of text) ≡ stands.done
taken schedule cores text rest count parser stands = ap (take count) stands.lines ∙ take_at stands.done (lines_of rest) count stands.counted

Stands-may : (schedule : Bool) (cores : ℕ) (text rest : List ℕ) (count : ℕ) (parser : Parser) → Stands schedule cores text rest count parser → MayStand schedule cores text count
Stands-may schedule cores text rest count parser stands =
    let is = taken schedule cores text rest count parser stands in
    record {
      there = let all = ap length stands.lines in let counted = stands.counted in omega (arith, length-append stands.done (lines_of rest));
      begin = subst (Begin schedule cores) (sym is) (Stands-begin schedule cores text rest count parser stands);
      within = subst (λ l. min (length text) (size_of l) ≤ byte_limit) (sym is) (by_rest (length rest) refl);
    }
  where
    by_rest : (n : ℕ) → n ≡ length rest → min (length text) (size_of stands.done) ≤ byte_limit
    by_rest zero e = let within = stands.within in omega arith
    by_rest (suc n) e = let within = stands.within in let ended = stands.ended (omega arith) in omega arith

-- ---- where the next line may not stand

next_taken : (schedule : Bool) (cores : ℕ) (text rest : List ℕ) (count : ℕ) (parser : Parser) (words after : List ℕ) (stands : Stands schedule cores text rest count parser)
    → GoesTo rest words after → take (count + 1) (lines_of text) ≡ stands.done ++ words ∷ []
next_taken schedule cores text rest count parser words after stands to =
    let all : lines_of text ≡ (stands.done ++ words ∷ []) ++ lines_of after =
    stands.lines ∙ ap (λ l. stands.done ++ l) to.lines ∙ sym (append_assoc stands.done (words ∷ []) (lines_of after)) in
    let counted = stands.counted in
    ap (take (count + 1)) all ∙ take_at (stands.done ++ words ∷ []) (lines_of after) (count + 1) (omega (arith, length-append stands.done (words ∷ [])))

-- a line that may stand may follow
next_goes : (schedule : Bool) (cores : ℕ) (text rest : List ℕ) (count : ℕ) (parser : Parser) (words after : List ℕ) (stands : Stands schedule cores text rest count parser)
    → GoesTo rest words after → Begin schedule cores (take (count + 1) (lines_of text))
    → (says : Line) × IsSpelled words says × (next : State) × (state_after cores (state parser) says ≡ Some next)
next_goes schedule cores text rest count parser words after stands to begin =
    let begins = subst (Begin schedule cores) (next_taken schedule cores text rest count parser words after stands to) begin in
    let zip = subst (λ l. AllZip SpellsLine l (input_lines schedule begins.input)) (append_assoc stands.done (words ∷ []) begins.more) begins.spell in
    let middle = AllZip-middle SpellsLine stands.done words begins.more (input_lines schedule begins.input) zip in
    let fits = AreLines-middle middle.before middle.says middle.after (subst AreLines middle.is begins.is.lines) in
    let said : middle.before ≡ stands.said = spelled-unique stands.done middle.before stands.said (to-spelled stands.done middle.before middle.spelled fits.0) stands.spelled in
    let accepted = input-accepted schedule cores begins.input begins.is in
    let went = run-middle cores (start schedule) middle.before middle.says middle.after accepted.end (ap (run cores (start schedule)) (sym middle.is) ∙ accepted.goes) in
    let now : went.0 ≡ state parser = some_state went.0 (state parser) (sym went.2 ∙ ap (run cores (start schedule)) said ∙ stands.goes) in
    (middle.says, record { spells = middle.here; is = fits.1 }, went.1, ap (λ s. state_after cores s middle.says) (sym now) ∙ went.3)

there_is : (schedule : Bool) (cores : ℕ) (text rest : List ℕ) (count : ℕ) (parser : Parser) (words after : List ℕ) (stands : Stands schedule cores text rest count parser)
    → GoesTo rest words after → count < length (lines_of text)
there_is schedule cores text rest count parser words after stands to =
    let all = ap length stands.lines in let next = ap length to.lines in let counted = stands.counted in
    omega (arith, length-append stands.done (lines_of rest))

-- the line is the first outside
pub outside : (schedule : Bool) (cores : ℕ) (text rest : List ℕ) (count : ℕ) (parser : Parser) (words after : List ℕ) → Stands schedule cores text rest count parser → IsFirstLine rest words after
    → (MayStand schedule cores text (count + 1) → ⊥) → IsFirstOutside schedule cores text count
outside schedule cores text rest count parser words after stands first not =
    let lt = there_is schedule cores text rest count parser words after stands (first-goes rest words after first) in
    record {
      stand = Stands-may schedule cores text rest count parser stands;
      next = λ some may. not may;
      whole = λ input all spells. omega arith;
    }

-- a line that passes the limit may not stand
pub too_long : (schedule : Bool) (cores : ℕ) (text rest : List ℕ) (count : ℕ) (parser : Parser) (words after : List ℕ) → Stands schedule cores text rest count parser → IsFirstLine rest words after
    → 16777216 < length text - length after → MayStand schedule cores text (count + 1) → ⊥
too_long schedule cores text rest count parser words after stands first long may =
    let to = first-goes rest words after first in
    let within = subst (λ l. min (length text) (size_of l) ≤ byte_limit) (next_taken schedule cores text rest count parser words after stands to) may.within in
    let size = size_of-last stands.done words in
    let no_more = to.no_more in
    let whole = stands.whole in
    let some : 0 < length rest = let shorter = to.shorter in omega arith in
    let ended = stands.ended some in
    omega arith

-- a line that may not follow those before it may not stand
pub refused : (schedule : Bool) (cores : ℕ) (text rest : List ℕ) (count : ℕ) (parser : Parser) (words after : List ℕ) → Stands schedule cores text rest count parser → IsFirstLine rest words after
    → ((says : Line) → IsSpelled words says → state_after parser.cores (state parser) says ≡ None) → MayStand schedule cores text (count + 1) → ⊥
refused schedule cores text rest count parser words after stands first none may =
    let goes = next_goes schedule cores text rest count parser words after stands (first-goes rest words after first) may.begin in
    none_some goes.2 (sym (none goes.0 goes.1) ∙ ap (λ k. state_after k (state parser) goes.0) stands.cores_are ∙ goes.3)
  where
    none_some : (a : State) → None ≡ Some a → ⊥
    none_some a e = cc

conns_read : (schedule : Bool) (cores : ℕ) (text rest : List ℕ) (count : ℕ) (parser : Parser) (stands : Stands schedule cores text rest count parser)
    → conns_in (take count (lines_of text)) ≡ length (conns_of parser.contents)
conns_read schedule cores text rest count parser stands = ap conns_in (taken schedule cores text rest count parser stands) ∙ stands.conns

pub few_conns : (schedule : Bool) (cores : ℕ) (text rest : List ℕ) (count : ℕ) (parser : Parser) → Stands schedule cores text rest count parser → conns_in (take count (lines_of text)) ≤ conn_limit
few_conns schedule cores text rest count parser stands =
    let same = conns_read schedule cores text rest count parser stands in let few = stands.few in omega arith

-- ---- the end

end_read : (schedule : Bool) (cores : ℕ) (text rest : List ℕ) (count : ℕ) (parser : Parser) (stands : Stands schedule cores text rest count parser) → rest ≡ [] → lines_of text ≡ stands.done
end_read schedule cores text rest count parser stands none = stands.lines ∙ ap (λ r. stands.done ++ lines_of r) none ∙ append-nil stands.done

pub too_early : (schedule : Bool) (cores : ℕ) (text rest : List ℕ) (count : ℕ) (parser : Parser) → Stands schedule cores text rest count parser → rest ≡ [] → in_script parser.place ≡ false
    → IsFirstOutside schedule cores text count
too_early schedule cores text rest count parser stands none off =
    let all = end_read schedule cores text rest count parser stands none in
    record {
      stand = Stands-may schedule cores text rest count parser stands;
      next = λ some may. let long = ap length all in let counted = stands.counted in omega arith;
      whole = λ input here spells.
          let zip = subst (λ l. AllZip SpellsLine l (input_lines schedule input)) all spells.lines in
          let said : input_lines schedule input ≡ stands.said = spelled-unique stands.done (input_lines schedule input) stands.said (to-spelled stands.done (input_lines schedule input) zip spells.is.lines) stands.spelled in
          let accepted = input-accepted schedule cores input spells.is in
          let end : accepted.end ≡ state parser = some_state accepted.end (state parser) (sym accepted.goes ∙ ap (run cores (start schedule)) said ∙ stands.goes) in
          absurd (false≢true (sym off ∙ ap (λ (s : State). in_script s.place) (sym end) ∙ accepted.whole));
    }

pub whole_read : (schedule : Bool) (cores : ℕ) (text rest : List ℕ) (count : ℕ) (parser : Parser) → Stands schedule cores text rest count parser → rest ≡ [] → in_script parser.place ≡ true
    → Spells schedule cores text (input_of parser.contents)
whole_read schedule cores text rest count parser stands none on =
    let all = end_read schedule cores text rest count parser stands none in
    let said : stands.said ≡ input_lines schedule (input_of parser.contents) = stands.is ∙ lines-in_script schedule parser.place parser.contents on in
    let spelled = spells-of stands.done stands.said stands.spelled in
    record {
      is = input-fits schedule cores (input_of parser.contents) (state parser) (subst AreLines said spelled.1) stands.placed.none (ap (run cores (start schedule)) (sym said) ∙ stands.goes);
      lines = subst (λ l. AllZip SpellsLine l (input_lines schedule (input_of parser.contents))) (sym all) (subst (AllZip SpellsLine stands.done) said spelled.0);
      short = let within = stands.within in let empty = ap length none in omega arith;
    }

-- ---- a connection too many

has_conns : (schedule : Bool) (place : Place) (contents : Contents) → IsPlaced schedule place contents → 0 < length (conns_of contents) → in_script place ≡ true
has_conns schedule ScheduleHead contents placed some = absurd (let none = ap length (no_conns contents (placed.bare refl) placed.opened) in omega arith)
has_conns schedule Steps contents placed some = absurd (let none = ap length (no_conns contents (placed.bare refl) placed.opened) in omega arith)
has_conns schedule ScriptHead contents placed some = absurd (let none = ap length (no_conns contents (placed.bare refl) placed.opened) in omega arith)
has_conns schedule place contents placed some = refl

begun : Bool → Option Place
begun test = cond test (Some Conn) None

conn_goes : (cores : ℕ) (now : State) → in_script now.place ≡ true → (place_after now.place line.Conn ≡ Some Conn) × (state_after cores now line.Conn ≡ Some (at Conn now.total))
conn_goes cores now on =
    let when : place_after now.place line.Conn ≡ Some Conn = ap (λ t. cond t (Some Conn) None) on in
    (when, ap (λ p. state_of p (Some now.total)) when)

too_many : (schedule : Bool) (cores : ℕ) (text rest : List ℕ) (count : ℕ) (parser : Parser) (words after : List ℕ) → Stands schedule cores text rest count parser → IsFirstLine rest words after
    → length text ≤ length after + 16777216 → IsSpelled words line.Conn → length (conns_of parser.contents) ≡ 1024 → IsFirstTooMany schedule cores text count
too_many schedule cores text rest count parser words after stands first within spelled full =
    let to = first-goes rest words after first in
    let before = taken schedule cores text rest count parser stands in
    let next = next_taken schedule cores text rest count parser words after stands to in
    let on = has_conns schedule parser.place parser.contents stands.placed (omega arith) in
    let goes = conn_goes cores (state parser) on in
    let more = grows schedule parser.place Conn parser.contents line.Conn stands.placed goes.0 in
    let begin = begin_of schedule cores (stands.done ++ words ∷ []) (stands.said ++ line.Conn ∷ []) (at Conn parser.total) (grown parser.contents line.Conn)
    (AllZip-last stands.done stands.said words line.Conn stands.spelled spelled)
    (run-last cores (start schedule) (state parser) (at Conn parser.total) stands.said line.Conn stands.goes goes.1)
    (ap (λ l. l ++ line.Conn ∷ []) stands.is ∙ sym more.lines)
    more.placed in
    record {
      stand = record {
        there = let lt = there_is schedule cores text rest count parser words after stands to in omega arith;
        begin = subst (Begin schedule cores) (sym next) begin;
        within = subst (λ l. min (length text) (size_of l) ≤ byte_limit) (sym next) (by_rest to (length after) refl);
      };
      conn = next ∙ ap (λ d. d ++ words ∷ []) (sym before) ∙ ap (λ w. take count (lines_of text) ++ w ∷ []) spelled.spells;
      count = conns_read schedule cores text rest count parser stands ∙ full;
    }
  where
    by_rest : GoesTo rest words after → (n : ℕ) → n ≡ length after → min (length text) (size_of (stands.done ++ words ∷ [])) ≤ byte_limit
    by_rest to zero e = omega arith
    by_rest to (suc n) e =
        let shorter = to.shorter in
        let gone = to.ended (omega arith) in
        let ended = stands.ended (omega arith) in
        let size = size_of-last stands.done words in
        omega arith

-- why a line was refused
pub cause : (schedule : Bool) (cores : ℕ) (text rest : List ℕ) (count : ℕ) (old new : Parser) (words after : List ℕ) → Stands schedule cores text rest count old → IsFirstLine rest words after
    → length text ≤ length after + 16777216 → (fault : ScriptFault) → AddsLine old new words (count + 1) (Err fault) → IsCause schedule cores text fault
cause schedule cores text rest count old new words after stands first within (Bad at_line) why = (
  count,
  why.0,
  outside schedule cores text rest count old words after stands first (refused schedule cores text rest count old words after stands first why.1),
  few_conns schedule cores text rest count old stands,
)
cause schedule cores text rest count old new words after stands first within (TooMany at_line) why =
    (count, why.0, too_many schedule cores text rest count old words after stands first within why.1 why.2)
cause schedule cores text rest count old new words after stands first within Memory why = tt
