-- What a colour received of what one other colour alone sends it is what that one sent it, in order.
use Rattle.std.proofs.Common.{◌≡◌, ◌<◌, ◌≤◌, ◌+◌, ◌==◌, ℕ, Bool, true, false, List, [], ◌∷◌, Option, None, Some, if◌then◌else◌, length, map, refl, sym, ◌∙◌, ap, arith, inl, inr, eq-eqb, ne_eqb}
use Rattle.std.proofs.lemmas.Bool.{cases_eq}
use Rattle.std.proofs.lemmas.List.Sums.{sum_by-cons}
use Rattle.std.specs.List.{AllByRecursion, cons_option, filter_map}
use Rattle.std.specs.Prelude.{option_and_then, sum_by}
use Rattle.mely_event.specs.declared.colour.Colour.{Colour}
use Rattle.mely_history.specs.declared.entry.Entry.{Entry}
use Rattle.mely_history.specs.declared.setup.Setup.{Setup}
use Rattle.mely_history.specs.Setup.{colours_of}
use Rattle.mely_history.proofs.LegalAccountLemmas.{same_colour}
use Rattle.mely_app.proofs.PutsLemmas.{colours_one, colours_same}
use Rattle.mely_actor.specs.declared.actor.Actor.{Ghosts as ActorWords}
use Rattle.mely_actor.specs.Received.{AreKept}
use Rattle.mely_actor.specs.Sending.{count_to, is_sent_by, sends_to, sent_by}

-- ---- lists

-- two filters are one
pub picked_twice : {A B D : Type 0} (f : A → Option B) (g : B → Option D) (xs : List A) → filter_map g (filter_map f xs) ≡ filter_map (λ x. option_and_then g (f x)) xs
picked_twice f g [] = refl
picked_twice {A} {B} {D} f g (x ∷ xs) = for (f x) (picked_twice f g xs) where
  for : (o : Option B) → filter_map g (filter_map f xs) ≡ filter_map (λ y. option_and_then g (f y)) xs → filter_map g (cons_option o (filter_map f xs)) ≡ cons_option (option_and_then g o) (filter_map (λ y. option_and_then g (f y)) xs)
  for None rest = rest
  for (Some b) rest = ap (cons_option (g b)) rest

pub picked_same : {A B : Type 0} (f g : A → Option B) (xs : List A) → AllByRecursion (λ x. f x ≡ g x) xs → filter_map f xs ≡ filter_map g xs
picked_same f g [] same = refl
picked_same f g (x ∷ xs) same = ap (λ o. cons_option o (filter_map f xs)) same.0 ∙ ap (cons_option (g x)) (picked_same f g xs same.1)

pub picked_mapped : {A B D : Type 0} (h : A → B) (f : B → Option D) (xs : List A) → filter_map f (map h xs) ≡ filter_map (λ x. f (h x)) xs
picked_mapped h f [] = refl
picked_mapped h f (x ∷ xs) = ap (cons_option (f (h x))) (picked_mapped h f xs)

pub all_the_same : {A : Type 0} (P : A → Type 0) → ((x : A) → P x) → (xs : List A) → AllByRecursion P xs
all_the_same P so [] = tt
all_the_same P so (x ∷ xs) = (so x, all_the_same P so xs)

-- how many are picked
one_if : {X : Type 0} → Option X → ℕ
one_if None = 0
one_if (Some x) = 1

module _ {M X : Type 0} (pick : M → Option X) where
  pub picked_count : M → ℕ
  unfolding one_if
  picked_count message = one_if (pick message)

  count_is : (messages : List M) → sum_by picked_count messages ≡ length (filter_map pick messages)
  unfolding picked_count one_if
  count_is [] = refl
  count_is (message ∷ messages) =
      let rest = count_is messages in
      let first = sum_by-cons picked_count message messages in
      for (pick message) (sum_by picked_count messages) rest (sum_by picked_count (message ∷ messages)) first
    where
      for : (o : Option X) (n : ℕ) → n ≡ length (filter_map pick messages) → (all : ℕ) → all ≡ one_if o + n → all ≡ length (cons_option o (filter_map pick messages))
      for None n rest all first = omega (arith, rest, first)
      for (Some x) n rest all first = omega (arith, rest, first)

  -- of messages with their senders those of such senders
  fewer : (test : Option Colour → Bool) (senders : List (Option Colour)) (messages : List M) → length (filter_map pick (sent_by test senders messages)) ≤ length (filter_map pick messages)
  fewer test [] messages = omega arith
  fewer test (sender ∷ senders) [] = omega arith
  fewer test (sender ∷ senders) (message ∷ messages) = for (test sender) (pick message) refl (fewer test senders messages) where
    for : (b : Bool) (o : Option X) → pick message ≡ o → length (filter_map pick (sent_by test senders messages)) ≤ length (filter_map pick messages) → length (filter_map pick (if b then message ∷ sent_by test senders messages else sent_by test senders messages)) ≤ length (cons_option o (filter_map pick messages))
    for true None is rest = rw is rest
    for true (Some x) is rest = rw is (let few = rest in omega (arith, few))
    for false None is rest = rest
    for false (Some x) is rest = omega (arith, rest)

  all_of : (test : Option Colour → Bool) (senders : List (Option Colour)) (messages : List M) → length senders ≡ length messages → length (filter_map pick (sent_by test senders messages)) ≡ length (filter_map pick messages) → filter_map pick (sent_by test senders messages) ≡ filter_map pick messages
  all_of test [] [] same many = refl
  all_of test [] (message ∷ messages) same many = absurd (omega (arith, same))
  all_of test (sender ∷ senders) [] same many = refl
  all_of test (sender ∷ senders) (message ∷ messages) same many = for (test sender) (pick message) refl many (all_of test senders messages (omega (arith, same))) where
    for : (b : Bool) (o : Option X) → pick message ≡ o → length (filter_map pick (if b then message ∷ sent_by test senders messages else sent_by test senders messages)) ≡ length (cons_option o (filter_map pick messages))
        → (length (filter_map pick (sent_by test senders messages)) ≡ length (filter_map pick messages) → filter_map pick (sent_by test senders messages) ≡ filter_map pick messages)
        → filter_map pick (if b then message ∷ sent_by test senders messages else sent_by test senders messages) ≡ cons_option o (filter_map pick messages)
    for true None is all rest = ap (λ o. cons_option o (filter_map pick (sent_by test senders messages))) is ∙ rest (sym (ap (λ o. length (cons_option o (filter_map pick (sent_by test senders messages)))) is) ∙ all)
    for true (Some x) is all rest = ap (λ o. cons_option o (filter_map pick (sent_by test senders messages))) is ∙ ap (λ l. x ∷ l) (rest (let e = sym (ap (λ o. length (cons_option o (filter_map pick (sent_by test senders messages)))) is) ∙ all in omega (arith, e)))
    for false None is all rest = rest all
    for false (Some x) is all rest = absurd (let few = fewer test senders messages in omega (arith, all, few))

  -- as sums over what is sent to a colour
  sent_count : (c : Colour) (sends : List (Colour × M)) → count_to c picked_count sends ≡ length (filter_map pick (sends_to c sends))
  unfolding picked_count one_if
  sent_count c [] = refl
  sent_count c (send ∷ sends) =
      let rest = sent_count c sends in
      let first = sum_by-cons (λ (s : Colour × M). if s.0.0 == c.0 then picked_count s.1 else 0) send sends in
      for (send.0.0 == c.0) (pick send.1) refl (count_to c picked_count sends) rest (count_to c picked_count (send ∷ sends)) first
    where
      for : (b : Bool) (o : Option X) → pick send.1 ≡ o → (n : ℕ) → n ≡ length (filter_map pick (sends_to c sends)) → (all : ℕ) → all ≡ (if b then one_if (pick send.1) else 0) + n → all ≡ length (filter_map pick (cons_option (if b then Some send.1 else None) (sends_to c sends)))
      for true None is n rest all first = let one = ap one_if is in rw is (omega (arith, rest, first, one))
      for true (Some x) is n rest all first = let one = ap one_if is in rw is (omega (arith, rest, first, one))
      for false o is n rest all first = omega (arith, rest, first)

module _ {A V M X : Type 0} (a : ActorWords A V M) (actor : A) (setup : Setup) (posts : List (Colour × M)) (histories : List (List Entry)) (values : List V) (kept : AreKept a actor setup posts histories values) (pick : M → Option X) where
  -- where what is picked of a colour's messages is sent by one other colour alone
  pub picked_from : (c d : Colour) → c.0 < colours_of setup → d.0 < colours_of setup → filter_map pick (sends_to c posts) ≡ []
      → ((e : Colour) → e.0 < colours_of setup → (e.0 ≡ d.0 → ⊥) → filter_map pick (sends_to c (kept.sent e)) ≡ [])
      → filter_map pick (kept.received c) ≡ filter_map pick (sends_to c (kept.sent d))
  picked_from c d low there none others =
      let all = kept.arrived c low (picked_count pick) in
      let received = count_is pick (kept.received c) in
      let posted = sent_count pick c posts in
      let nothing = ap length none in
      let each = colours_same (colours_of setup) (λ e. count_to c (picked_count pick) (kept.sent e)) (λ e. if d.0 == e.0 then length (filter_map pick (sends_to c (kept.sent d))) else 0) of_one in
      let one = colours_one (colours_of setup) d (length (filter_map pick (sends_to c (kept.sent d)))) there in
      let sent = ap (λ l. length (filter_map pick l)) (kept.in_order c d low) in
      sym (all_of pick (is_sent_by d) (kept.senders c) (kept.received c) (kept.all_sent c low) (omega (arith, all, received, posted, nothing, each, one, sent))) ∙ ap (filter_map pick) (kept.in_order c d low)
    where
      of_one : (e : Colour) → e.0 < colours_of setup → count_to c (picked_count pick) (kept.sent e) ≡ (if d.0 == e.0 then length (filter_map pick (sends_to c (kept.sent d))) else 0)
      of_one e below = elim (cases_eq e.0 d.0) [
        | inl same ↦
            sent_count pick c (kept.sent e) ∙ ap (λ x. length (filter_map pick (sends_to c (kept.sent x)))) (same_colour e d same)
            ∙ sym (ap (λ b. if b then length (filter_map pick (sends_to c (kept.sent d))) else 0) (eq-eqb d.0 e.0 (sym same)))
        | inr apart ↦
            sent_count pick c (kept.sent e) ∙ ap length (others e below apart)
            ∙ sym (ap (λ b. if b then length (filter_map pick (sends_to c (kept.sent d))) else 0) (ne_eqb d.0 e.0 (λ same. apart (sym same))))
      ]
