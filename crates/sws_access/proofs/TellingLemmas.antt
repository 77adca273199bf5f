-- Lines that are told one after another.
use Rattle.std.specs.Prelude.{slice_get}
use Rattle.std.proofs.Common.{◌≡◌, ℕ, zero, suc, ◌+◌, ◌-◌, Bool, true, false, List, [], ◌∷◌, ◌++◌, length, take, drop, Option, Some, None, Ok, Err, Result, refl, sym, ap, ◌∙◌, subst, arith, length-append}
use Rattle.sws_link.specs.declared.Link.{Ghosts as LinkWords}
use Rattle.sws_link.specs.Links.{LinkContents, input_of}
use Rattle.sws_log.specs.declared.line.LogLine.{LogLine}
use Rattle.sws_log.specs.Lines.{lines_within}
use Rattle.sws_steps.specs.declared.Handler.{Handler}
use Rattle.sws_steps.specs.declared.Handler.TheVariants as handler
use Rattle.sws_steps.specs.declared.Next.{Next}
use Rattle.sws_steps.specs.declared.talk.Talk.{Ghosts as TalkWords}
use Rattle.sws_steps.specs.Logs.{IsLineOf, bit}
use Rattle.sws_steps.specs.Talks.{TalkView, LinesOf, LinesServed, OpensBy, opened_view}
use Rattle.sws_steps.specs.Told.{NumbersFrom, IsLogWithin}
use Rattle.sws_access.specs.Telling.{IsToldBehind, AreToldBehind, TellsSo, TellsEach}

-- ---- one more

-- a line behind those that were told
told-append : (log : List ℕ → List LogLine) (tells : Option LinkContents) (number before : ℕ) (told : List LogLine) (line : LogLine)
    → AreToldBehind log tells number before told → IsToldBehind log tells number (before + length told) line
    → AreToldBehind log tells number before (told ++ line ∷ [])
told-append log tells number before [] line are is =
    let same : before + 0 ≡ before = omega arith in (subst (λ n. IsToldBehind log tells number n line) same is, tt)
told-append log tells number before (one ∷ told) line are is =
    let same : before + length (one ∷ told) ≡ (before + 1) + length told = omega arith in
    (are.0, told-append log tells number (before + 1) told line are.1 (subst (λ n. IsToldBehind log tells number n line) same is))

module _ {T L G H C : Type 0} (x : LinkWords L) (y : TalkWords T L G H) (number_of : C → ℕ) (told_of : C → List LogLine) (first : L) where
  -- nothing was told of a connection that was just opened
  pub told-opened : (trail : List Handler) (talk : T) (clerk : C) → told_of clerk ≡ [] → y.view_of talk ≡ opened_view → y.has_run first trail talk
      → TellsSo x y number_of told_of first trail talk clerk
  told-opened trail talk clerk none view ran = record {
    ran = ran;
    many = ap length none ∙ sym (ap (λ (v : TalkView). v.lines) view);
    told = subst (λ lines. AreToldBehind (y.log (y.hall_of talk) (number_of clerk)) (x.tells first) (number_of clerk) 0 lines) (sym none) tt;
  }

  -- a step that gave no line
  pub told-quietly : (trail more : List Handler) (before after : T) (clerk : C) → y.hall_of after ≡ y.hall_of before
      → (y.view_of after).lines ≡ (y.view_of before).lines + bit (y.told after) → y.told after ≡ false → y.has_run first more after
      → TellsSo x y number_of told_of first trail before clerk → TellsSo x y number_of told_of first more after clerk
  told-quietly trail more before after clerk hall lines untold ran h =
      let same : (y.view_of before).lines + bit (y.told after) ≡ (y.view_of before).lines = ap (λ b. (y.view_of before).lines + bit b) untold ∙ omega arith in
      record {
        ran = ran;
        many = h.many ∙ sym (lines ∙ same);
        told = subst (λ hall_so. AreToldBehind (y.log hall_so (number_of clerk)) (x.tells first) (number_of clerk) 0 (told_of clerk)) (sym hall) h.told;
      }

  -- what was told of a step that gave a line
  pub record ToldLine (before after : T) (clerk now : C) (line : LogLine) : Type 0 where
    pub hall : y.hall_of after ≡ y.hall_of before
    pub lines : (y.view_of after).lines ≡ (y.view_of before).lines + bit (y.told after)
    pub given : y.told after ≡ true
    pub conn : line.conn ≡ number_of clerk
    pub turn : line.turn ≡ (y.view_of after).lines
    pub told : told_of now ≡ told_of clerk ++ line ∷ []
    pub number : number_of now ≡ number_of clerk

  pub told-on : (trail more : List Handler) (before after : T) (clerk now : C) (line : LogLine) → ToldLine before after clerk now line
      → IsLineOf (y.log (y.hall_of after) (number_of clerk)) (x.tells first) line → y.has_run first more after
      → TellsSo x y number_of told_of first trail before clerk → TellsSo x y number_of told_of first more after now
  told-on trail more before after clerk now line tells of_log ran h =
      let one_more : (y.view_of after).lines ≡ (y.view_of before).lines + 1 = tells.lines ∙ ap (λ b. (y.view_of before).lines + bit b) tells.given in
      let were = subst (λ hall_so. AreToldBehind (y.log hall_so (number_of clerk)) (x.tells first) (number_of clerk) 0 (told_of clerk)) (sym tells.hall) h.told in
      let turn_is : line.turn ≡ (0 + length (told_of clerk)) + 1 = tells.turn ∙ (let many = h.many in omega (arith, one_more)) in
      let are = told-append (y.log (y.hall_of after) (number_of clerk)) (x.tells first) (number_of clerk) 0 (told_of clerk) line were (record { conn = tells.conn; turn = turn_is; of_log = of_log }) in
      record {
        ran = ran;
        many = ap length tells.told ∙ length-append (told_of clerk) (line ∷ []) ∙ (let many = h.many in omega (arith, one_more));
        told = subst (λ n. AreToldBehind (y.log (y.hall_of after) n) (x.tells first) n 0 (told_of now)) (sym tells.number)
            (subst (λ lines. AreToldBehind (y.log (y.hall_of after) (number_of clerk)) (x.tells first) (number_of clerk) 0 lines) (sym tells.told) are);
      }

-- ---- all of them

told-numbered : (log : List ℕ → List LogLine) (tells : Option LinkContents) (number before : ℕ) (told : List LogLine)
    → AreToldBehind log tells number before told → NumbersFrom number (before + 1) told
unfolding NumbersFrom
told-numbered log tells number before [] are = tt
told-numbered log tells number before (line ∷ later) are = (are.0.conn, are.0.turn, told-numbered log tells number (before + 1) later are.1)

-- what is left begins with the element that stands there
drop-there : {A : Type 0} (l : List A) (n : ℕ) (one : A) → slice_get l n ≡ Some one → drop n l ≡ one ∷ drop (n + 1) l
drop-there [] n one e = absurd (let no : None ≡ Some one = e in cc)
drop-there (first ∷ l) zero one e = let same : first ≡ one = cc in ap (λ a. a ∷ l) same
drop-there (first ∷ l) (suc n) one e =
    let next : suc n + 1 ≡ suc (n + 1) = omega arith in
    drop-there l n one e ∙ ap (λ k. one ∷ drop k (first ∷ l)) (sym next)

-- the lines that were told stand in the log one after another
told-front : (log : List ℕ → List LogLine) (tells : LinkContents) (number before : ℕ) (told : List LogLine)
    → AreToldBehind log (Some tells) number before told → told ≡ take (length told) (drop before (log (input_of tells)))
told-front log tells number before [] are = sym (take-none (drop before (log (input_of tells))))
  where
    take-none : {A : Type 0} (l : List A) → take 0 l ≡ []
    take-none [] = refl
    take-none (a ∷ l) = refl
told-front log tells number before (line ∷ later) are =
    let all = log (input_of tells) in
    let turn = are.0.turn in
    let place : line.turn - 1 ≡ before = omega (arith, turn) in
    let there : slice_get all before ≡ Some line = ap (slice_get all) (sym place) ∙ are.0.of_log.1 in
    ap (λ rest. line ∷ rest) (told-front log tells number (before + 1) later are.1)
    ∙ sym (ap (take (length (line ∷ later))) (drop-there all before line there))

told-written : (log : List ℕ → List LogLine) (tells : Option LinkContents) (number : ℕ) (view : TalkView) (told : List LogLine)
    → length told ≡ view.lines → AreToldBehind log tells number 0 told → LinesServed log tells view → IsLogWithin log tells view.written told
told-written log None number view told many are served = tt
told-written log (Some tells) number view told many are served =
    told-front log tells number 0 told are ∙ (ap (λ n. take n (drop 0 (log (input_of tells)))) many ∙ (ap (take view.lines) (drop-none (log (input_of tells))) ∙ served.lines))
  where
    drop-none : {A : Type 0} (l : List A) → drop 0 l ≡ l
    drop-none [] = refl
    drop-none (a ∷ l) = refl

pub tells-each : (log : List ℕ → List LogLine) (tells : Option LinkContents) (number : ℕ) (view : TalkView) (told : List LogLine)
    → length told ≡ view.lines → AreToldBehind log tells number 0 told → LinesServed log tells view → TellsEach log tells view number told
tells-each log tells number view told many are served = record {
  many = many;
  in_turn = told-numbered log tells number 0 told are;
  written = told-written log tells number view told many are served;
}

-- ---- the opening

-- it was opened where the answer is no refusal
pub opened-as : {T L : Type 0} (link_of : T → Option L) (view_of : T → TalkView) (there : Option L) (before : T) (link : L) (next : Next) (after : T)
    → OpensBy link_of view_of there before link (Ok next) after → view_of after ≡ opened_view
opened-as link_of view_of None before link next after h = h.2
opened-as link_of view_of (Some linked) before link next after h = absurd (let no : Ok next ≡ Err link = h.0 in cc)
