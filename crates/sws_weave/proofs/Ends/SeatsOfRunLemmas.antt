-- Of the states by colour, the third one is the first that talks, and only the
-- first can have the world.
use Rattle.std.proofs.Common.{◌≡◌, ℕ, zero, suc, ◌+◌, ◌≤◌, List, [], ◌∷◌, ◌++◌, Bool, true, false, Option, None, Some, length, refl, sym, ◌∙◌, ap, subst, arith}
use Rattle.std.proofs.lemmas.Option.{same_Some}
use Rattle.std.specs.Prelude.{slice_get}
use Rattle.sws_handlers.specs.declared.load.WorldLoad.{WorldLoad}
use Rattle.sws_handlers.specs.declared.place.Desk.{Desk}
use Rattle.sws_handlers.specs.declared.place.Seat.{Seat}
use Rattle.sws_handlers.specs.declared.place.Role.{Role}
use Rattle.sws_handlers.specs.declared.place.Role.TheVariants.{Polling, Talking, Logging}
use Rattle.sws_handlers.specs.KeptLines.{KeptLinesState, no_lines}
use Rattle.sws_handlers.specs.Place.{PlaceState}
use Rattle.sws_weave.specs.PartsKept.{IsPlacedAs}
use Rattle.sws_handlers.specs.RunLeaves.{Talker, talker_by, talkers, or_else, resting_by, resting_in, lines_by, lines_in}
use Rattle.sws_handlers.specs.Counting.{bit, colours_over}

or_none : {A : Type 0} (o : Option A) → or_else o None ≡ o
or_none None = refl
or_none (Some a) = refl

pub below_bit : (log : Bool) → bit log ≤ 1
below_bit true = omega arith
below_bit false = omega arith

module _ {H W T : Type 0} where
  -- the talker comes from the state at this place, that many states behind the first
  pub record ComesFrom (states : List (PlaceState H W T)) (at : ℕ) (talker : Talker H W T) : Type 0 where
    pub there : slice_get states at ≡ Some talker.place
    pub talks : talker.place.role ≡ Talking talker.seat

  placed_on : (total i n : ℕ) (place : PlaceState H W T) → IsPlacedAs total (suc i + n) place → IsPlacedAs total (i + (n + 1)) place
  placed_on total i n place is = let same : suc i + n ≡ i + (n + 1) = omega arith in subst (λ k. IsPlacedAs total k place) same is

  -- so many of the states talk, and behind these there is none, or the one that keeps the log
  pub record SomeTalk (count : ℕ) (states : List (PlaceState H W T)) : Type 0 where
    pub many : length (talkers states) ≡ count
    pub each : (i : ℕ) (talker : Talker H W T) → slice_get (talkers states) i ≡ Some talker → ComesFrom states i talker
    pub quiet : (before : Option (WorldLoad W)) → resting_in before states ≡ before
    pub unlogged : length states ≡ count → (before : KeptLinesState) → lines_in before states ≡ before
    pub logged : (place : PlaceState H W T) → slice_get states count ≡ Some place → (before : KeptLinesState) → lines_in before states ≡ place.lines

  one_from : (place : PlaceState H W T) (seat : Seat T) (states : List (PlaceState H W T)) (count : ℕ) → place.role ≡ Talking seat → SomeTalk count states → (i : ℕ) (talker : Talker H W T) → slice_get (record { place = place; seat = seat } ∷ talkers states) i ≡ Some talker → ComesFrom (place ∷ states) i talker
  one_from place seat states count talks rest zero talker at =
      let me : Talker H W T = record { place = place; seat = seat } in
      let same : me ≡ talker = same_Some me talker at in
      record { there = ap (λ (t : Talker H W T). Some t.place) same; talks = ap (λ (t : Talker H W T). t.place.role) (sym same) ∙ talks ∙ ap (λ (t : Talker H W T). Talking t.seat) same }
  one_from place seat states count talks rest (suc i) talker at = let from = rest.each i talker at in record { there = from.there; talks = from.talks }

  one_more : (place : PlaceState H W T) (seat : Seat T) (states : List (PlaceState H W T)) (count : ℕ) → place.role ≡ Talking seat → SomeTalk count states → SomeTalk (suc count) (place ∷ states)
  one_more place seat states count talks rest =
      let me : Talker H W T = record { place = place; seat = seat } in
      let is : talkers (place ∷ states) ≡ me ∷ talkers states = ap (λ (role : Role W T). talker_by place role ++ talkers states) talks in
      record {
        many = (let long = ap length is in let many = rest.many in omega (arith, long, many));
        each = λ i talker at. one_from place seat states count talks rest i talker (ap (λ (l : List (Talker H W T)). slice_get l i) (sym is) ∙ at);
        quiet = λ before. ap (λ (role : Role W T). resting_in (or_else (resting_by role) before) states) talks ∙ rest.quiet before;
        unlogged = λ all before. ap (λ (role : Role W T). lines_in (lines_by role place.lines before) states) talks ∙ rest.unlogged (omega (arith, all)) before;
        logged = λ last at before. ap (λ (role : Role W T). lines_in (lines_by role place.lines before) states) talks ∙ rest.logged last at before;
      }

  -- the one behind them
  none_talks : (states : List (PlaceState H W T)) → length states ≤ 1 → ((place : PlaceState H W T) → slice_get states 0 ≡ Some place → place.role ≡ Logging) → SomeTalk 0 states
  none_talks [] few logs = record { many = refl; each = λ i talker at. cc; quiet = λ before. refl; unlogged = λ all before. refl; logged = λ place at before. cc }
  none_talks (last ∷ []) few logs =
      let own = logs last refl in
      let none : talkers (last ∷ []) ≡ [] = ap (λ (role : Role W T). talker_by last role ++ []) own in
      record {
        many = ap length none;
        each = λ i talker at. nothing_at i talker (ap (λ (l : List (Talker H W T)). slice_get l i) (sym none) ∙ at);
        quiet = λ before. ap (λ (role : Role W T). or_else (resting_by role) before) own;
        unlogged = λ all before. absurd (omega (arith, all));
        logged = λ place at before. ap (λ (role : Role W T). lines_by role last.lines before) own ∙ ap (λ (p : PlaceState H W T). p.lines) (same_Some last place at);
      }
    where
      nothing_at : (i : ℕ) (talker : Talker H W T) → slice_get [] i ≡ Some talker → ComesFrom (last ∷ []) i talker
      nothing_at i talker at = cc
  none_talks (last ∷ (more ∷ states)) few logs = absurd (omega (arith, few))

  all_talk : (total count n : ℕ) → 2 ≤ n → n + count ≡ total + 2 → (states : List (PlaceState H W T)) → count ≤ length states → length states ≤ count + 1 → ((i : ℕ) (place : PlaceState H W T) → slice_get states i ≡ Some place → IsPlacedAs total (i + n) place) → SomeTalk count states
  all_talk total zero n more sum states least most placed = none_talks states (omega (arith, most)) (λ place at. (placed 0 place at).logs (omega (arith, sum)))
  all_talk total (suc count) n more sum [] least most placed = absurd (omega (arith, least))
  all_talk total (suc count) n more sum (place ∷ states) least most placed =
      let first = (placed 0 place refl).talks (omega (arith, more)) (omega (arith, sum)) in
      let rest = all_talk total count (n + 1) (omega (arith, more)) (omega (arith, sum)) states (omega (arith, least)) (omega (arith, most)) (λ i other at. placed_on total i n other (placed (suc i) other at)) in
      one_more place first.0 states count first.1 rest

  -- of the states of a run
  pub record SeatsStand (total : ℕ) (states : List (PlaceState H W T)) : Type 0 where
    pub many : length (talkers states) ≡ total
    pub each : (i : ℕ) (talker : Talker H W T) → slice_get (talkers states) i ≡ Some talker → ComesFrom states (i + 2) talker
    pub place : PlaceState H W T
    pub desk : Desk W
    pub first : slice_get states 0 ≡ Some place
    pub polls : place.role ≡ Polling desk
    pub resting : resting_in None states ≡ desk.resting
    pub unlogged : length states ≡ total + 2 → lines_in no_lines states ≡ no_lines
    pub logged : (last : PlaceState H W T) → slice_get states (total + 2) ≡ Some last → lines_in no_lines states ≡ last.lines

  pub seats_stand : (total : ℕ) (log : Bool) (states : List (PlaceState H W T)) → length states ≡ colours_over total log → ((i : ℕ) (place : PlaceState H W T) → slice_get states i ≡ Some place → IsPlacedAs total i place) → SeatsStand total states
  seats_stand total log [] many placed = absurd (omega (arith, many))
  seats_stand total log (first ∷ []) many placed = absurd (omega (arith, many))
  seats_stand total log (first ∷ (second ∷ states)) many placed =
      let polls = (placed 0 first refl).polls refl in
      let accepts = (placed 1 second refl).accepts refl in
      let rest = all_talk total total 2 (omega arith) (omega arith) states (omega (arith, many)) (omega (arith, many, below_bit log)) (λ i place at. (let same : suc (suc i) ≡ i + 2 = omega arith in subst (λ k. IsPlacedAs total k place) same (placed (suc (suc i)) place at))) in
      let none : talkers (first ∷ (second ∷ states)) ≡ talkers states = ap (λ (role : Role W T). talker_by first role ++ (talker_by second second.role ++ talkers states)) polls.1 ∙ ap (λ (role : Role W T). talker_by second role ++ talkers states) accepts in
      let kept : lines_in no_lines (first ∷ (second ∷ states)) ≡ lines_in no_lines states = ap (λ (role : Role W T). lines_in (lines_by second.role second.lines (lines_by role first.lines no_lines)) states) polls.1 ∙ ap (λ (role : Role W T). lines_in (lines_by role second.lines no_lines) states) accepts in
      record {
        many = (let long = ap length none in let all = rest.many in omega (arith, long, all));
        each = λ i talker at. (let from = rest.each i talker (ap (λ (l : List (Talker H W T)). slice_get l i) (sym none) ∙ at) in record { there = ap (slice_get (first ∷ (second ∷ states))) (let two : i + 2 ≡ suc (suc i) = omega arith in two) ∙ from.there; talks = from.talks });
        place = first;
        desk = polls.0;
        first = refl;
        polls = polls.1;
        resting =
            ap (λ (role : Role W T). resting_in (or_else (resting_by second.role) (or_else (resting_by role) None)) states) polls.1
            ∙ ap (λ (role : Role W T). resting_in (or_else (resting_by role) (or_else polls.0.resting None)) states) accepts
            ∙ rest.quiet (or_else polls.0.resting None)
            ∙ or_none polls.0.resting;
        unlogged = λ all. kept ∙ rest.unlogged (omega (arith, all)) no_lines;
        logged = λ last at. kept ∙ rest.logged last (ap (slice_get (first ∷ (second ∷ states))) (let two : suc (suc total) ≡ total + 2 = omega arith in two) ∙ at) no_lines;
      }
