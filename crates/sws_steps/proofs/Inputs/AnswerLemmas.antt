-- The answer to the request at the front of the buffer comes first, whatever
-- comes behind that request.
use Rattle.std.specs.Prelude.{◌==◌}
use Rattle.std.proofs.Common.{◌≡◌, ℕ, ◌+◌, ◌-◌, ◌<◌, Bool, true, false, List, [], ◌∷◌, ◌++◌, take, refl, sym, ap, ◌∙◌, arith, ne_eqb}
use Rattle.std.proofs.lemmas.Bool.{eqb-true, eq-eqb}
use Rattle.sws_steps.specs.Protocol.{Protocol, IsOrderly, Whole, TooLong, request, too_long, later_unless, answers_from}
use Rattle.sws_steps.specs.ConnCore.{ConnCoreState}
use Rattle.sws_steps.specs.Step.{is_last}

-- the answer is the last one where one is left
is_last-left : (limit answered : ℕ) → answered < limit → ((limit - answered) == 1) ≡ (answered + 1 == limit)
is_last-left limit answered lt = by_last (answered + 1 == limit) refl
  where
    by_last : (last : Bool) → last ≡ (answered + 1 == limit) → ((limit - answered) == 1) ≡ last
    by_last true e = let all = eqb-true (answered + 1) limit (sym e) in eq-eqb (limit - answered) 1 (omega arith)
    by_last false e = ne_eqb (limit - answered) 1 (λ one. let no : false ≡ true = e ∙ eq-eqb (answered + 1) limit (omega arith) in cc)

module _ {Hall Answer : Type 0} (p : Protocol Hall Answer) (orderly : IsOrderly p) (c : ConnCoreState Hall) (more : c.answered < p.answer_limit c.hall) where
  one_less : p.answer_limit c.hall - c.answered - 1 ≡ p.answer_limit c.hall - (c.answered + 1)
  one_less = omega arith

  pub first-whole : (len : ℕ) (behind : List ℕ) → p.cut c.buffer ≡ Whole len
      → p.answers (p.answer_limit c.hall - c.answered) c.hall (take len c.buffer ++ behind)
      ≡ answers_from p (p.answer c.hall (request (take len c.buffer)) (is_last p c)) (p.answers (p.answer_limit c.hall - (c.answered + 1)) c.hall behind)
  first-whole len behind is =
      let some = more in
      orderly.one_more (p.answer_limit c.hall - c.answered) c.hall c.buffer behind len (omega arith) is
      ∙ ap (λ l. answers_from p (p.answer c.hall (request (take len c.buffer)) l) (p.answers (p.answer_limit c.hall - c.answered - 1) c.hall behind))
      (is_last-left (p.answer_limit c.hall) c.answered more)
      ∙ ap (λ n. answers_from p (p.answer c.hall (request (take len c.buffer)) (is_last p c)) (p.answers n c.hall behind)) one_less

  pub first-refused : (behind : List ℕ) → p.cut c.buffer ≡ TooLong
      → p.answers (p.answer_limit c.hall - c.answered) c.hall (c.buffer ++ behind)
      ≡ answers_from p (p.answer c.hall too_long (is_last p c)) (p.answers (p.answer_limit c.hall - (c.answered + 1)) c.hall behind)
  first-refused behind is =
      let some = more in
      orderly.refused (p.answer_limit c.hall - c.answered) c.hall c.buffer behind (omega arith) is
      ∙ ap (λ l. p.answer c.hall too_long l ∷ []) (is_last-left (p.answer_limit c.hall) c.answered more)
      ∙ ap (λ t. p.answer c.hall too_long (is_last p c) ∷ later_unless t (p.answers (p.answer_limit c.hall - (c.answered + 1)) c.hall behind))
      (sym (orderly.refusal_closes c.hall (is_last p c)))
