use Rattle.std.proofs.Common.{◌≡◌, get_or, Some, None, sym, ap, ◌∙◌, subst}
use Rattle.sws_script.specs.declared.words.Word.{Word}
use Rattle.sws_script.specs.declared.words.Word.TheVariants.{ScheduleHead}
use Rattle.sws_script.specs.Words.{word_text, strip_word}
use Rattle.sws_script.proofs.WordLemmas.{stripped-yes, stripped-no, first_word_found, first_word_next}
use Rattle.sws_script.proofs.words.first_of.Goals as goal
use Rattle.sws_script.proofs.words.first_of.Goals.{At-loop-word}

-- the word of this round
abbrev this_word : At-loop-word → Word
this_word c = get_or c.args.words.now c.loop-word.word-index ScheduleHead

pub returns-in-Some : goal.returns-in-Some
returns-in-Some c =
    let word = this_word (goal.at.returns-in-Some c).At-loop-word in
    let h = c.in-Some.ensures.cases in
    let text = c.text.ensures in
    let found : strip_word (word_text word) c.args.line.now ≡ Some c.in-Some.rest.now =
    subst (λ t. strip_word t c.args.line.now ≡ Some c.in-Some.rest.now) text (stripped-yes c.text.result.now c.args.line.now h.0 ∙ ap Some (sym h.1)) in
    sym (first_word_found c.args.words.now c.loop-word.word-index ScheduleHead c.args.line.now c.in-Some.rest.now c.loop-word-test.true found) ∙ c.loop-word.invariant

pub loop-word-preserved : goal.loop-word-preserved
loop-word-preserved c =
    let word = this_word (goal.at.loop-word-preserved c).At-loop-word in
    let h = c.in_default.ensures.cases in
    let none : strip_word (word_text word) c.args.line.now ≡ None = subst (λ t. strip_word t c.args.line.now ≡ None) c.text.ensures (stripped-no c.text.result.now c.args.line.now h) in
    first_word_next c.args.words.now c.loop-word.word-index ScheduleHead c.args.line.now c.loop-word-test.true none ∙ c.loop-word.invariant
