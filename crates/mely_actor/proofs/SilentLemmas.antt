-- Where nothing sends to a colour, what it has received is what was posted to it, in that order; and
-- where one colour alone does and nothing is posted to it, what that sent. And what is of use to all
-- who post an item to each colour.
use Rattle.std.proofs.Common.{◌≡◌, ◌<◌, ◌≤◌, ◌+◌, ◌==◌, ℕ, zero, suc, Bool, true, false, List, [], ◌∷◌, Option, Some, if◌then◌else◌, length, map, refl, sym, ◌∙◌, ap, arith, inl, inr, eq-eqb, ne_eqb}
use Rattle.std.proofs.lemmas.Bool.{cases_eq}
use Rattle.std.proofs.lemmas.List.Sums.{sum_by-cons}
use Rattle.std.specs.Prelude.{slice_get, sum_by}
use Rattle.mely_event.specs.declared.colour.Colour.{Colour}
use Rattle.mely_history.specs.declared.entry.Entry.{Entry}
use Rattle.mely_history.specs.declared.setup.Setup.{Setup}
use Rattle.mely_history.specs.Setup.{colours_of}
use Rattle.mely_history.proofs.LegalAccountLemmas.{same_colour}
use Rattle.mely_app.specs.Puts.{sum_colours}
use Rattle.mely_app.proofs.PutsLemmas.{colours_one, colours_same}
use Rattle.mely_actor.specs.declared.actor.Actor.{Ghosts as ActorWords}
use Rattle.mely_actor.specs.Received.{AreKept}
use Rattle.mely_actor.specs.Sending.{count_to, is_sent_by, none_sent, sends_to, sent_by}
use Rattle.mely_actor.proofs.NewsLemmas.{sends-counted}

sum_ones : {M : Type 0} (received : List M) → sum_by (λ _. 1) received ≡ length received
sum_ones [] = refl
sum_ones {M} (message ∷ received) = let rest = sum_ones received in let one = sum_by-cons (λ (m : M). 1) message received in omega (arith, rest, one)

none_of_all : (n : ℕ) (f : Colour → ℕ) → ((d : Colour) → d.0 < n → f d ≡ 0) → sum_colours n f ≡ 0
none_of_all zero f none = refl
none_of_all (suc n) f none = let rest = none_of_all n f (λ d low. none d (omega (arith, low))) in let last = none (record { 0 = n }) (omega arith) in omega (arith, rest, last)

-- where as many messages have such senders as there are, all have
module _ {M : Type 0} (test : Option Colour → Bool) where
  no_more : (senders : List (Option Colour)) (messages : List M) → length (sent_by test senders messages) ≤ length messages
  no_more [] messages = omega arith
  no_more (sender ∷ senders) [] = omega arith
  no_more (sender ∷ senders) (message ∷ messages) = for (test sender) (no_more senders messages) where
    for : (b : Bool) → length (sent_by test senders messages) ≤ length messages → length (if b then message ∷ sent_by test senders messages else sent_by test senders messages) ≤ suc (length messages)
    for true rest = omega (arith, rest)
    for false rest = omega (arith, rest)

  all_by : (senders : List (Option Colour)) (messages : List M) → length senders ≡ length messages → length (sent_by test senders messages) ≡ length messages → sent_by test senders messages ≡ messages
  all_by [] [] same many = refl
  all_by [] (message ∷ messages) same many = absurd (omega (arith, same))
  all_by (sender ∷ senders) [] same many = refl
  all_by (sender ∷ senders) (message ∷ messages) same many = for (test sender) many (all_by senders messages (omega (arith, same))) where
    for : (b : Bool) → length (if b then message ∷ sent_by test senders messages else sent_by test senders messages) ≡ suc (length messages) → (length (sent_by test senders messages) ≡ length messages → sent_by test senders messages ≡ messages) → (if b then message ∷ sent_by test senders messages else sent_by test senders messages) ≡ message ∷ messages
    for true all rest = ap (λ l. message ∷ l) (rest (omega (arith, all)))
    for false all rest = absurd (let few = no_more senders messages in omega (arith, all, few))

module _ {A V M : Type 0} (a : ActorWords A V M) (actor : A) (setup : Setup) (posts : List (Colour × M)) (histories : List (List Entry)) (values : List V) (kept : AreKept a actor setup posts histories values) where
  -- where nothing that was sent to a colour counts, what it received counts as what was posted to it
  pub quiet_counts : (c : Colour) (number : M → ℕ) → c.0 < colours_of setup → ((d : Colour) → d.0 < colours_of setup → count_to c number (kept.sent d) ≡ 0) → sum_by number (kept.received c) ≡ count_to c number posts
  quiet_counts c number low quiet =
      let all = kept.arrived c low number in
      let none = none_of_all (colours_of setup) (λ d. count_to c number (kept.sent d)) quiet in
      omega (arith, all, none)

  -- as many were received as were posted and sent
  many_arrived : (c : Colour) → c.0 < colours_of setup → length (kept.received c) ≡ length (sends_to c posts) + sum_colours (colours_of setup) (λ d. count_to c (λ _. 1) (kept.sent d))
  many_arrived c low =
      let all = kept.arrived c low (λ _. 1) in
      let here = sum_ones (kept.received c) in
      let those = sum_ones (sends_to c posts) in
      let posted = sends-counted c (λ _. 1) posts in
      omega (arith, all, here, those, posted)

  -- where nothing was sent to a colour, it received what was posted to it, in that order
  pub quiet_are : (c : Colour) → c.0 < colours_of setup → ((d : Colour) → d.0 < colours_of setup → sends_to c (kept.sent d) ≡ []) → kept.received c ≡ sends_to c posts
  quiet_are c low quiet =
      let all = many_arrived c low in
      let none = none_of_all (colours_of setup) (λ d. count_to c (λ _. 1) (kept.sent d)) (λ d below. sym (sends-counted c (λ _. 1) (kept.sent d)) ∙ ap (sum_by (λ _. 1)) (quiet d below)) in
      let posted = ap length (kept.posted c low) in
      sym (all_by none_sent (kept.senders c) (kept.received c) (kept.all_sent c low) (omega (arith, all, none, posted))) ∙ kept.posted c low

  -- where one colour alone sent to it and nothing was posted to it, what that sent, in its order
  pub from_one : (c e : Colour) → c.0 < colours_of setup → e.0 < colours_of setup → sends_to c posts ≡ [] → ((d : Colour) → d.0 < colours_of setup → (d.0 ≡ e.0 → ⊥) → sends_to c (kept.sent d) ≡ []) → kept.received c ≡ sends_to c (kept.sent e)
  from_one c e low there none quiet =
      let mine = length (sends_to c (kept.sent e)) in
      let all = many_arrived c low in
      let nothing = ap length none in
      let each = colours_same (colours_of setup) (λ d. count_to c (λ _. 1) (kept.sent d)) (λ d. if e.0 == d.0 then mine else 0) of_one in
      let one = colours_one (colours_of setup) e mine there in
      let sent = ap length (kept.in_order c e low) in
      sym (all_by (is_sent_by e) (kept.senders c) (kept.received c) (kept.all_sent c low) (omega (arith, all, nothing, each, one, sent))) ∙ kept.in_order c e low
    where
      of_one : (d : Colour) → d.0 < colours_of setup → count_to c (λ _. 1) (kept.sent d) ≡ (if e.0 == d.0 then length (sends_to c (kept.sent e)) else 0)
      of_one d below = elim (cases_eq d.0 e.0) [
        | inl same ↦
            sym (sends-counted c (λ _. 1) (kept.sent d)) ∙ sum_ones (sends_to c (kept.sent d)) ∙ ap (λ x. length (sends_to c (kept.sent x))) (same_colour d e same)
            ∙ sym (ap (λ b. if b then length (sends_to c (kept.sent e)) else 0) (eq-eqb e.0 d.0 (sym same)))
        | inr apart ↦
            sym (sends-counted c (λ _. 1) (kept.sent d)) ∙ ap (sum_by (λ _. 1)) (quiet d below apart)
            ∙ sym (ap (λ b. if b then length (sends_to c (kept.sent e)) else 0) (ne_eqb e.0 d.0 (λ same. apart (sym same))))
      ]

  -- where none sends at all, as many messages were received as were posted
  pub silent_many : ((d : Colour) → d.0 < colours_of setup → kept.sent d ≡ []) → (c : Colour) → c.0 < colours_of setup → length (kept.received c) ≡ count_to c (λ _. 1) posts
  silent_many silent c low = sym (sum_ones (kept.received c)) ∙ quiet_counts c (λ _. 1) low (λ d below. ap (count_to c (λ _. 1)) (silent d below))

-- a list of one element
pub one_of : {X : Type 0} (xs : List X) → length xs ≡ 1 → (x : X) × (xs ≡ x ∷ [])
one_of [] is = absurd (omega (arith, is))
one_of (x ∷ []) is = (x, refl)
one_of (x ∷ y ∷ xs) is = absurd (let many : length (x ∷ y ∷ xs) ≡ length xs + 2 = omega arith in omega (arith, is, many))

-- a list whose elements are those of another, each changed
pub is_mapped : {X Y : Type 0} (f : X → Y) (ys : List Y) (xs : List X) → length ys ≡ length xs → ((k : ℕ) (x : X) (y : Y) → slice_get xs k ≡ Some x → slice_get ys k ≡ Some y → y ≡ f x) → ys ≡ map f xs
is_mapped f [] [] many each = refl
is_mapped f [] (x ∷ xs) many each = absurd (omega (arith, many))
is_mapped f (y ∷ ys) [] many each = absurd (omega (arith, many))
is_mapped {X} {Y} f (y ∷ ys) (x ∷ xs) many each =
    let rest = is_mapped f ys xs (omega (arith, many)) (λ k z w at there. each (suc k) z w at there) in
    ap (λ (l : List Y). y ∷ l) rest ∙ ap (λ z. z ∷ map f xs) (each zero x y refl refl)
