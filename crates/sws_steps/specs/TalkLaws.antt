-- Laws of each connection as a talk: what more bytes bring is answered behind what came before, and
-- one whose end is known isn't kept waiting.
use Rattle.std.specs.Prelude.{◌==◌, Option, Some, None, IsSome}
use Rattle.std.proofs.Common.{◌≡◌, ℕ, zero, suc, ◌-◌, Bool, true, false, List, [], ◌∷◌, ◌++◌, take, drop, refl, sym, ap, ◌∙◌, arith, append_assoc, append-nil, take-append-drop}
use Rattle.std.proofs.lemmas.List.Concat.{flat_map-append}
use Rattle.sws_link.specs.Contents.{IsPrefix}
use Rattle.sws_steps.specs.Protocol.{Protocol, IsOrderly, Cut, Whole, TooLong, NotYet, request, too_long, later_unless, text_of, texts_of, answers_from}
use Rattle.sws_steps.specs.declared.End.{End}
use Rattle.sws_steps.specs.ConnCore.{ConnCoreState, is_waiting, is_waiting_by}

-- a list begins with another
unfoldable pub Begins : {A : Type 0} → List A → List A → Type 0
Begins {A} first whole = (later : List A) × (whole ≡ first ++ later)

-- a front of more bytes begins with the front of the first ones
pub take-append : (n : ℕ) (bytes more : List ℕ)
    → (later : List ℕ) × (take n (bytes ++ more) ≡ take n bytes ++ later)
take-append n [] more = (
  take n more,
  (elim n as (λ n. take n more ≡ take n [] ++ take n more) [ zero ↦ refl | suc n ↦ refl ]),
)
take-append zero (b ∷ bytes) more = ([], refl)
take-append (suc n) (b ∷ bytes) more =
    let rest = take-append n bytes more in (rest.0, ap (λ r. b ∷ r) rest.1)

begins_followed : {A : Type 0} (answer : A) (closes : Bool) (first whole : List A)
    → Begins first whole
    → Begins (answer ∷ later_unless closes first) (answer ∷ later_unless closes whole)
unfolding Begins
begins_followed answer true first whole begins = ([], refl)
begins_followed answer false first whole begins = (begins.0, ap (λ l. answer ∷ l) begins.1)

module _ {Hall Answer : Type 0} (p : Protocol Hall Answer) (orderly : IsOrderly p) where
  -- what more bytes bring is answered behind what came before
  pub answers-begin : (left : ℕ) (hall : Hall) (bytes more : List ℕ)
      → Begins (p.answers left hall bytes) (p.answers left hall (bytes ++ more))
  unfolding Begins
  answers-begin zero hall bytes more = (
    [],
    orderly.none_left hall (bytes ++ more)
        ∙ sym (append-nil (p.answers 0 hall bytes) ∙ orderly.none_left hall bytes),
  )
  answers-begin (suc left) hall bytes more =
      by_cut (p.cut bytes) refl (λ len. answers-begin left hall (drop len bytes) more)
    where
      some : List ℕ → List Answer
      some b = p.answers (suc left) hall b

      by_cut : (cut : Cut) → p.cut bytes ≡ cut
          → ((len : ℕ) → Begins (p.answers left hall (drop len bytes))
          (p.answers left hall (drop len bytes ++ more)))
          → Begins (some bytes) (some (bytes ++ more))
      by_cut NotYet e later = (
        some (bytes ++ more),
        ap (λ first. first ++ some (bytes ++ more))
            (sym (orderly.none_yet (suc left) hall bytes e)),
      )
      by_cut TooLong e later =
          let refusal = p.answer hall too_long (suc left == 1) ∷ [] in
          let first : some bytes ≡ refusal =
          ap some (sym (append-nil bytes))
          ∙ orderly.refused (suc left) hall bytes [] (omega arith) e in (
            [],
            orderly.refused (suc left) hall bytes more (omega arith) e
                ∙ sym (append-nil (some bytes) ∙ first),
          )
      by_cut (Whole len) e later =
          let head = take len bytes in
          let rest = drop len bytes in
          let answer = p.answer hall (request head) (suc left == 1) in
          let less : suc left - 1 ≡ left = omega arith in
          let at : (behind : List ℕ)
          → some (head ++ behind) ≡ answers_from p answer (p.answers left hall behind) =
          (λ behind. orderly.one_more (suc left) hall bytes behind len (omega arith) e
          ∙ ap (λ n. answers_from p answer (p.answers n hall behind)) less) in
          let first : some bytes ≡ answers_from p answer (p.answers left hall rest) =
          ap some (sym (take-append-drop len bytes)) ∙ at rest in
          let begins = begins_followed answer (p.closes answer) (p.answers left hall rest)
          (p.answers left hall (rest ++ more)) (later len) in (
            begins.0,
            ap (λ b. some (b ++ more)) (sym (take-append-drop len bytes))
                ∙ ap some (append_assoc head rest more)
                ∙ at (rest ++ more) ∙ begins.1 ∙ ap (λ l. l ++ begins.0) (sym first),
          )

  -- the responses to a front of some bytes are a front of the responses to them
  pub responses-begin : (hall : Hall) (front bytes : List ℕ) → IsPrefix front bytes
      → IsPrefix (p.responses_of hall front) (p.responses_of hall bytes)
  unfolding Begins
  responses-begin hall front bytes (more, is) =
      let all : List ℕ → List Answer = (λ b. p.answers (p.answer_limit hall) hall b) in
      let counted = take-append (p.input_limit hall) front more in
      let first = all (take (p.input_limit hall) front) in
      let begins = answers-begin (p.answer_limit hall) hall (take (p.input_limit hall) front) counted.0 in
      let texts : (b : List ℕ)
      → p.responses_of hall b ≡ texts_of p (all (take (p.input_limit hall) b)) =
      (λ b. orderly.texts hall b ∙ ap (texts_of p) (orderly.all hall b)) in (
        texts_of p begins.0,
        texts bytes ∙ ap (λ b. texts_of p (all (take (p.input_limit hall) b))) is
            ∙ ap (λ b. texts_of p (all b)) counted.1
            ∙ ap (texts_of p) begins.1
            ∙ flat_map-append (text_of p) first begins.0
            ∙ ap (λ t. t ++ texts_of p begins.0) (sym (texts front)),
      )

-- ---- waiting

by-end : (end : Option End) (waits : ℕ) → IsSome end → is_waiting_by end waits ≡ false
by-end None waits some = let no : false ≡ true = some in cc
by-end (Some end) waits some = refl

-- a connection whose end is known isn't kept waiting
pub end-unkept : {Hall : Type 0} (c : ConnCoreState Hall) → IsSome c.end → is_waiting c ≡ false
end-unkept c some = by-end c.end c.waits some
