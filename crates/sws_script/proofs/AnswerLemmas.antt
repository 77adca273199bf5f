-- A text has one answer.
use Rattle.std.proofs.Common.{◌≡◌, ◌≢◌, Ok, Err, ℕ, ◌+◌, ◌<◌, ◌≤◌, ◌⊎◌, Bool, true, false, cond, List, [], ◌∷◌, ◌++◌, length, take, drop, map, Option, Some, None, refl, sym, ap, ◌∙◌, subst, inl, inr, arith, append_assoc, append-nil}
use Rattle.std.proofs.lemmas.Bool.{cases_order, cases_lt}
use Rattle.std.proofs.lemmas.List.{take-append-drop, take-take, take_all}
use Rattle.std.specs.Prelude.{codes, option_to_list, Result, IfOk, IfErr}
use Rattle.std.specs.List.{flat_map, AllZip}
use Rattle.sws_script.specs.declared.contents.Contents.{Contents}
use Rattle.sws_script.specs.declared.fault.ScriptFault.{ScriptFault}
use Rattle.sws_script.specs.declared.fault.ScriptFault.TheVariants.{Bad, TooMany, Memory}
use Rattle.sws_script.specs.declared.input.Input.{Input}
use Rattle.sws_script.specs.declared.input.Item.{Item}
use Rattle.sws_script.specs.declared.input.ScriptConn.{ScriptConn}
use Rattle.sws_script.specs.declared.line.Line.{Line}
use Rattle.sws_script.specs.declared.line.Line.TheVariants as line
use Rattle.sws_script.specs.Lines.{SpellsLine, IsSpelled}
use Rattle.sws_script.specs.Inputs.{step_lines, cut_lines, conn_lines, run_line, schedule_lines, script_lines, input_lines}
use Rattle.sws_script.specs.Grammar.{lines_of, size_of, Spells, Begin, MayStand, IsFirstOutside, IsFirstTooMany, is_conn, conns_in, IsCause, IsUnlessMemory}
use Rattle.sws_link.specs.Limits.{conn_limit}
use Rattle.sws_script.specs.Order.{grown, conns_of, input_of, no_contents, bare_conn}
use Rattle.sws_script.proofs.SplitLemmas.{to-spelled, spelled-unique}
use Rattle.sws_script.proofs.StandingLemmas.{is_conn-line, is_conn_line, length-conns_of-grown}

-- ---- what lines say together

told : Contents → List Line → Contents
told contents [] = contents
told contents (says ∷ lines) = told (grown contents says) lines

told-append : (contents : Contents) (a b : List Line) → told contents (a ++ b) ≡ told (told contents a) b
unfolding told
told-append contents [] b = refl
told-append contents (says ∷ a) b = told-append (grown contents says) a b

abbrev holding : List (ℕ × ℕ) → List ScriptConn → Option ScriptConn → Contents
holding steps conns last = record { steps = steps; conns = conns; open_conn = last }

told-steps : (before steps : List (ℕ × ℕ)) (conns : List ScriptConn) (last : Option ScriptConn) → told (holding before conns last) (map run_line steps) ≡ holding (before ++ steps) conns last
unfolding told
told-steps before [] conns last = ap (λ s. holding s conns last) (sym (append-nil before))
told-steps before (step ∷ steps) conns last =
    told-steps (before ++ step ∷ []) steps conns last ∙ ap (λ s. holding s conns last) (append_assoc before (step ∷ []) steps)

abbrev conn_with : Option ℕ → Option ℕ → List Item → ScriptConn
conn_with step cut items = record { step = step; cut = cut; items = items }

told-items : (steps : List (ℕ × ℕ)) (conns : List ScriptConn) (step cut : Option ℕ) (before items : List Item)
    → told (holding steps conns (Some (conn_with step cut before))) (map line.Item items) ≡ holding steps conns (Some (conn_with step cut (before ++ items)))
unfolding told
told-items steps conns step cut before [] = ap (λ i. holding steps conns (Some (conn_with step cut i))) (sym (append-nil before))
told-items steps conns step cut before (item ∷ items) =
    told-items steps conns step cut (before ++ item ∷ []) items ∙ ap (λ i. holding steps conns (Some (conn_with step cut i))) (append_assoc before (item ∷ []) items)

told-rest : (steps : List (ℕ × ℕ)) (conns : List ScriptConn) (step cut : Option ℕ) (items : List Item)
    → told (holding steps conns (Some bare_conn)) (step_lines step ++ cut_lines cut ++ map line.Item items) ≡ holding steps conns (Some (conn_with step cut items))
unfolding told
told-rest steps conns None None items = told-items steps conns None None [] items
told-rest steps conns (Some step) None items = told-items steps conns (Some step) None [] items
told-rest steps conns None (Some cut) items = told-items steps conns None (Some cut) [] items
told-rest steps conns (Some step) (Some cut) items = told-items steps conns (Some step) (Some cut) [] items

told-conn : (steps : List (ℕ × ℕ)) (conns : List ScriptConn) (last : Option ScriptConn) (conn : ScriptConn)
    → told (holding steps conns last) (conn_lines conn) ≡ holding steps (conns ++ option_to_list last) (Some conn)
unfolding told
told-conn steps conns last conn = told-rest steps (conns ++ option_to_list last) conn.step conn.cut conn.items

abbrev input_with : List (ℕ × ℕ) → List ScriptConn → Input
input_with steps conns = record { steps = steps; conns = conns }

told-conns : (steps : List (ℕ × ℕ)) (before conns : List ScriptConn) (last : Option ScriptConn)
    → input_of (told (holding steps before last) (flat_map conn_lines conns)) ≡ input_with steps ((before ++ option_to_list last) ++ conns)
unfolding told
told-conns steps before [] last = ap (input_with steps) (sym (append-nil (before ++ option_to_list last)))
told-conns steps before (conn ∷ conns) last =
    ap input_of (told-append (holding steps before last) (conn_lines conn) (flat_map conn_lines conns))
    ∙ ap (λ c. input_of (told c (flat_map conn_lines conns))) (told-conn steps before last conn)
    ∙ told-conns steps (before ++ option_to_list last) conns (Some conn)
    ∙ ap (input_with steps) (append_assoc (before ++ option_to_list last) (conn ∷ []) conns)

-- the input of its lines
told-input : (schedule : Bool) (input : Input) → (schedule ≡ false → input.steps ≡ []) → input_of (told no_contents (input_lines schedule input)) ≡ input
unfolding told
told-input false input none = told-conns [] [] input.conns None ∙ ap (λ s. input_with s input.conns) (sym (none refl))
told-input true input none =
    ap input_of (told-append no_contents (schedule_lines input.steps) (script_lines input.conns))
    ∙ ap (λ c. input_of (told c (flat_map conn_lines input.conns)))
    (told-append no_contents (map run_line input.steps) (line.End ∷ []) ∙ told-steps [] input.steps [] None)
    ∙ told-conns input.steps [] input.conns None

-- ---- one input

all_spelled : (schedule : Bool) (cores : ℕ) (text : List ℕ) (input : Input) → Spells schedule cores text input → AllZip IsSpelled (lines_of text) (input_lines schedule input)
all_spelled schedule cores text input spells = to-spelled (lines_of text) (input_lines schedule input) spells.lines spells.is.lines

pub Spells-unique : (schedule : Bool) (cores : ℕ) (text : List ℕ) (one other : Input) → Spells schedule cores text one → Spells schedule cores text other → one ≡ other
Spells-unique schedule cores text one other a b =
    let same : input_lines schedule one ≡ input_lines schedule other =
    spelled-unique (lines_of text) (input_lines schedule one) (input_lines schedule other) (all_spelled schedule cores text one a) (all_spelled schedule cores text other b) in
    sym (told-input schedule one a.is.none) ∙ ap (λ l. input_of (told no_contents l)) same ∙ told-input schedule other b.is.none

-- ---- fewer lines may stand too

size_of-append : (a b : List (List ℕ)) → size_of (a ++ b) ≡ size_of a + size_of b
size_of-append [] b = omega arith
size_of-append (l ∷ a) b = let more = size_of-append a b in omega arith

conns_in-append : (a b : List (List ℕ)) → conns_in (a ++ b) ≡ conns_in a + conns_in b
conns_in-append [] b = omega arith
conns_in-append (l ∷ a) b = let more = conns_in-append a b in omega arith

Begin-front : (schedule : Bool) (cores : ℕ) (a b : List (List ℕ)) → Begin schedule cores (a ++ b) → Begin schedule cores a
Begin-front schedule cores a b begin = record {
  input = begin.input;
  more = b ++ begin.more;
  is = begin.is;
  spell = subst (λ l. AllZip SpellsLine l (input_lines schedule begin.input)) (append_assoc a b begin.more) begin.spell;
}

-- the first lines of more lines
record Front (lines : List (List ℕ)) (few many : ℕ) : Type 0 where
  more : List (List ℕ)
  is : take many lines ≡ take few lines ++ more

front_of : (lines : List (List ℕ)) (few many : ℕ) → few ≤ many → Front lines few many
front_of lines few many le = record {
  more = drop few (take many lines);
  is = sym (take-append-drop few (take many lines)) ∙ ap (λ l. l ++ drop few (take many lines)) (take-take few many lines le);
}

pub MayStand-earlier : (schedule : Bool) (cores : ℕ) (text : List ℕ) (few many : ℕ) → few ≤ many → MayStand schedule cores text many → MayStand schedule cores text few
MayStand-earlier schedule cores text few many le may =
    let front = front_of (lines_of text) few many le in
    record {
      there = let there = may.there in omega arith;
      begin = Begin-front schedule cores (take few (lines_of text)) front.more (subst (Begin schedule cores) front.is may.begin);
      within =
          let within = may.within in
          let size : size_of (take many (lines_of text)) ≡ size_of (take few (lines_of text)) + size_of front.more = ap size_of front.is ∙ size_of-append (take few (lines_of text)) front.more in
          omega arith;
    }

-- all lines of a text that spells an input may stand
Spells-stand : (schedule : Bool) (cores : ℕ) (text : List ℕ) (input : Input) (count : ℕ) → Spells schedule cores text input → count ≤ length (lines_of text) → MayStand schedule cores text count
Spells-stand schedule cores text input count spells there =
    let parts = take-append-drop count (lines_of text) in
    record {
      there = there;
      begin = record {
        input = input;
        more = drop count (lines_of text);
        is = spells.is;
        spell = subst (λ l. AllZip SpellsLine l (input_lines schedule input)) (sym parts) spells.lines;
      };
      within = let short = spells.short in omega arith;
    }

-- ---- one answer

pub no_fault : (schedule : Bool) (cores : ℕ) (text : List ℕ) (input : Input) (before : ℕ) → Spells schedule cores text input → IsFirstOutside schedule cores text before → ⊥
no_fault schedule cores text input before spells out = by_place (cases_lt before (length (lines_of text)))
  where
    by_place : (before < length (lines_of text)) ⊎ (length (lines_of text) ≤ before) → ⊥
    by_place (inl lt) = out.next lt (Spells-stand schedule cores text input (before + 1) spells (omega arith))
    by_place (inr ge) = out.whole input (let there = out.stand.there in omega arith) spells

not_later : (schedule : Bool) (cores : ℕ) (text : List ℕ) (one other : ℕ) → one < other → IsFirstOutside schedule cores text one → MayStand schedule cores text other → ⊥
not_later schedule cores text one other lt out may =
    out.next (let there = may.there in omega arith) (MayStand-earlier schedule cores text (one + 1) other (omega arith) may)

same_fault : (schedule : Bool) (cores : ℕ) (text : List ℕ) (one other : ℕ) → IsFirstOutside schedule cores text one → IsFirstOutside schedule cores text other → one ≡ other
same_fault schedule cores text one other a b = by_order (cases_order one other)
  where
    by_order : (one ≡ other) ⊎ ((one < other) ⊎ (other < one)) → one ≡ other
    by_order (inl e) = e
    by_order (inr (inl lt)) = absurd (not_later schedule cores text one other lt a b.stand)
    by_order (inr (inr gt)) = absurd (not_later schedule cores text other one gt b a.stand)

-- the lines up to a connection too many begin 1,025
many_conns : (schedule : Bool) (cores : ℕ) (text : List ℕ) (before : ℕ) → IsFirstTooMany schedule cores text before → conns_in (take (before + 1) (lines_of text)) ≡ 1025
many_conns schedule cores text before many =
    let same = ap conns_in many.conn in
    let count = many.count in
    omega (arith, conns_in-append (take before (lines_of text)) (codes "conn" ∷ []))

more_conns : (lines : List (List ℕ)) (few many : ℕ) → few ≤ many → conns_in (take few lines) ≤ conns_in (take many lines)
more_conns lines few many le =
    let front = front_of lines few many le in
    let same = ap conns_in front.is in
    omega (arith, conns_in-append (take few lines) front.more)

not_both : (schedule : Bool) (cores : ℕ) (text : List ℕ) (one other : ℕ) → IsFirstOutside schedule cores text one → conns_in (take one (lines_of text)) ≤ conn_limit → IsFirstTooMany schedule cores text other → ⊥
not_both schedule cores text one other out few many = by_order (cases_lt other one)
  where
    by_order : (other < one) ⊎ (one ≤ other) → ⊥
    by_order (inl lt) =
        let more = more_conns (lines_of text) (other + 1) one (omega arith) in
        let all = many_conns schedule cores text other many in omega arith
    by_order (inr ge) = not_later schedule cores text one (other + 1) (omega arith) out many.stand

same_many : (schedule : Bool) (cores : ℕ) (text : List ℕ) (one other : ℕ) → IsFirstTooMany schedule cores text one → IsFirstTooMany schedule cores text other → one ≡ other
same_many schedule cores text one other a b = by_order (cases_order one other)
  where
    by_order : (one ≡ other) ⊎ ((one < other) ⊎ (other < one)) → one ≡ other
    by_order (inl e) = e
    by_order (inr (inl lt)) =
        let more = more_conns (lines_of text) (one + 1) other (omega arith) in
        let all = many_conns schedule cores text one a in let count = b.count in absurd (omega arith)
    by_order (inr (inr gt)) =
        let more = more_conns (lines_of text) (other + 1) one (omega arith) in
        let all = many_conns schedule cores text other b in let count = a.count in absurd (omega arith)

abbrev one_if : Bool → ℕ
one_if test = cond test 1 0

told_conns : (texts : List (List ℕ)) (said : List Line) (contents : Contents) → AllZip IsSpelled texts said → conns_in texts + length (conns_of contents) ≡ length (conns_of (told contents said))
unfolding told
told_conns [] [] contents zip = omega arith
told_conns [] (l ∷ said) contents zip = absurd zip
told_conns (t ∷ texts) [] contents zip = absurd zip
told_conns (t ∷ texts) (l ∷ said) contents zip =
    let more = told_conns texts said (grown contents l) zip.1 in
    let same : one_if (is_conn t) ≡ one_if (is_conn_line l) = ap one_if (is_conn-line t l zip.0) in
    let long = length-conns_of-grown contents l in
    omega arith

whole_conns : (schedule : Bool) (cores : ℕ) (text : List ℕ) (input : Input) → Spells schedule cores text input → conns_in (lines_of text) ≡ length input.conns
whole_conns schedule cores text input spells =
    let all = told_conns (lines_of text) (input_lines schedule input) no_contents (all_spelled schedule cores text input spells) in
    let same : length (conns_of (told no_contents (input_lines schedule input))) ≡ length input.conns = ap (λ (i : Input). length i.conns) (told-input schedule input spells.is.none) in
    omega arith

pub no_many : (schedule : Bool) (cores : ℕ) (text : List ℕ) (input : Input) (before : ℕ) → Spells schedule cores text input → length input.conns ≤ 1024 → IsFirstTooMany schedule cores text before → ⊥
no_many schedule cores text input before spells few many =
    let whole = whole_conns schedule cores text input spells in
    let all : take (length (lines_of text)) (lines_of text) ≡ lines_of text = take_all (length (lines_of text)) (lines_of text) (omega arith) in
    let same = ap conns_in all in
    let there = many.stand.there in
    let more = more_conns (lines_of text) (before + 1) (length (lines_of text)) (omega arith) in
    let count = many_conns schedule cores text before many in
    omega arith

-- a text that spells an input has no fault but want of memory
pub no_cause : (schedule : Bool) (cores : ℕ) (text : List ℕ) (input : Input) (fault : ScriptFault) → Spells schedule cores text input → length input.conns ≤ 1024 → IsCause schedule cores text fault → fault ≡ Memory
no_cause schedule cores text input (Bad at) spells few why = absurd (no_fault schedule cores text input why.0 spells why.2)
no_cause schedule cores text input (TooMany at) spells few why = absurd (no_many schedule cores text input why.0 spells few why.2)
no_cause schedule cores text input Memory spells few why = refl

-- a text has one fault beside want of memory
pub one_cause : (schedule : Bool) (cores : ℕ) (text : List ℕ) (one other : ScriptFault) → IsCause schedule cores text one → IsCause schedule cores text other
    → (one ≡ other) ⊎ ((one ≡ Memory) ⊎ (other ≡ Memory))
one_cause schedule cores text Memory other a b = inr (inl refl)
one_cause schedule cores text (Bad m) Memory a b = inr (inr refl)
one_cause schedule cores text (TooMany m) Memory a b = inr (inr refl)
one_cause schedule cores text (Bad m) (Bad n) a b =
    inl (ap Bad (a.1 ∙ ap (λ k. k + 1) (same_fault schedule cores text a.0 b.0 a.2 b.2) ∙ sym b.1))
one_cause schedule cores text (TooMany m) (TooMany n) a b =
    inl (ap TooMany (a.1 ∙ ap (λ k. k + 1) (same_many schedule cores text a.0 b.0 a.2 b.2) ∙ sym b.1))
one_cause schedule cores text (Bad m) (TooMany n) a b = absurd (not_both schedule cores text a.0 b.0 a.2 a.3 b.2)
one_cause schedule cores text (TooMany m) (Bad n) a b = absurd (not_both schedule cores text b.0 a.0 b.2 b.3 a.2)

-- ---- the answer

abbrev pub Answer : Type 0
Answer = Result Input ScriptFault

pub answers-input : (schedule : Bool) (cores : ℕ) (text : List ℕ) (answer : Answer) → IfOk answer (λ input. Spells schedule cores text input × (length input.conns ≤ conn_limit))
    → IfErr answer (IsCause schedule cores text) → (input : Input) → Spells schedule cores text input → length input.conns ≤ conn_limit → IsUnlessMemory (Ok input) answer
answers-input schedule cores text (Ok found) is cause input spells few = inl (ap Ok (Spells-unique schedule cores text found input is.0 spells))
answers-input schedule cores text (Err fault) is cause input spells few = inr (ap Err (no_cause schedule cores text input fault spells few cause))

pub answers-fault : (schedule : Bool) (cores : ℕ) (text : List ℕ) (answer : Answer) → IfOk answer (λ input. Spells schedule cores text input × (length input.conns ≤ conn_limit))
    → IfErr answer (IsCause schedule cores text) → (fault : ScriptFault) → IsCause schedule cores text fault → fault ≢ Memory → IsUnlessMemory (Err fault) answer
answers-fault schedule cores text (Ok found) is cause fault why known = absurd (known (no_cause schedule cores text found fault is.0 is.1 why))
answers-fault schedule cores text (Err other) is cause fault why known = by_cause (one_cause schedule cores text other fault cause why)
  where
    by_cause : (other ≡ fault) ⊎ ((other ≡ Memory) ⊎ (fault ≡ Memory)) → IsUnlessMemory (Err fault) (Err other)
    by_cause (inl e) = inl (ap Err e)
    by_cause (inr (inl e)) = inr (ap Err e)
    by_cause (inr (inr e)) = absurd (known e)
