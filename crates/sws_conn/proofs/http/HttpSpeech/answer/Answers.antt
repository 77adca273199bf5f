use Rattle.std.proofs.Common.{◌≡◌, ◌≤◌, ℕ, List, length, take, drop, sym, ap, subst, ◌∙◌, refl}
use Rattle.std.proofs.lemmas.List.{length-take-le}
use Rattle.sws_request.specs.declared.cuts.Cut.TheVariants.{Head}
use Rattle.sws_request.specs.Cuts.{cut_of}
use Rattle.sws_request.proofs.CutLemmas.{IsCutOf-cut_of}
use Rattle.sws_answer.specs.Asked.{Asked, asked_by}
use Rattle.sws_answer.specs.Answers.{Answer, answer_of, target_of}
use Rattle.sws_steps.specs.Speaking.{AnswersFirst}
use Rattle.sws_conn.specs.Http.{http, cut_by, shown_limit}
use Rattle.sws_conn.proofs.LookLemmas.{parts-are, note-is, asked-is}
use Rattle.sws_conn.proofs.http.HttpSpeech.answer.Goals as goal

-- a head that was found lies in the buffer
head_fits : (buffer now : List ℕ) (len : ℕ) → Head len ≡ cut_of buffer → now ≡ buffer → len ≤ length now
head_fits buffer now len cut same = subst (λ b. len ≤ length b) (sym same) (IsCutOf-cut_of buffer (Head len) (sym cut)).0.fits

pub slice_bounds-head-end : goal.slice_bounds-head-end
slice_bounds-head-end c =
    sym (length-take-le c.in-Head.len c.bytes.result.now
    (head_fits c.args.self.now.buffer c.bytes.result.now c.in-Head.len c.in-Head.ensures.cut (c.bytes.ensures ∙ c.in-Head.ensures.same)))

pub drop_front-requires : goal.drop_front-requires
drop_front-requires c = head_fits c.args.self.now.buffer c.cut.new.self c.in-Head.len c.in-Head.ensures.cut c.in-Head.ensures.same

pub returns-in-Head-clause-answers : goal.returns-in-Head-clause-answers
returns-in-Head-clause-answers c =
    let before = c.args.self.now in
    let buffer = before.buffer in
    let len = c.in-Head.len in
    let answered = c.answer_head.result.0 in
    let parts = c.answer_head.new.parts in
    let sends = c.answer_head.ensures.answer in
    let asked = asked-is buffer c.bytes.result.now len len (c.bytes.ensures ∙ c.in-Head.ensures.same) refl in
    let answer_by : Asked → Answer = λ a. answer_of before.site.now a c.args.last in
    subst (λ cut. AnswersFirst http before.site.now buffer c.args.last (cut_by cut) c.drop_front.new.self parts c.note_answer.new.note answered.closes) c.in-Head.ensures.cut (record {
      rest_is = c.drop_front.ensures ∙ ap (drop len) c.in-Head.ensures.same;
      parts_is = parts-are parts _ _ (sends.head ∙ ap (λ a. (answer_by a).head) asked) (sends.body ∙ ap (λ a. (answer_by a).body) asked);
      note_is = c.note_answer.ensures ∙ note-is (answer_by (asked_by (take len buffer))) answered.code parts (take shown_limit c.answer_head.result.1.now)
          (sends.code ∙ ap (λ a. (answer_by a).code) asked) (sends.head ∙ ap (λ a. (answer_by a).head) asked) (sends.body ∙ ap (λ a. (answer_by a).body) asked)
          (ap (take shown_limit) (c.answer_head.ensures.target ∙ ap target_of asked));
      closes_is = sends.closes ∙ ap (λ a. (answer_by a).closes) asked;
    })
