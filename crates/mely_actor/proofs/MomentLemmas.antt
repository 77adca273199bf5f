-- What an author may conclude from one order of all receipts: what each receipt keeps, of all
-- values and of the messages under way, holds in the end, and wherever a message is received.
use Rattle.std.proofs.Common.{◌≡◌, ◌<◌, ◌≤◌, ◌+◌, ◌==◌, ℕ, zero, suc, Bool, true, false, List, [], ◌∷◌, ◌++◌, ◌⊎◌, Option, None, Some, if◌then◌else◌, cond, length, map, refl, sym, ◌∙◌, ap, subst, arith, inl, inr, append_assoc, append-nil, eq-eqb, ne_eqb, eqb-true}
use Rattle.std.proofs.lemmas.Bool.{cases_eq}
use Rattle.std.proofs.lemmas.List.{map-append}
use Rattle.std.proofs.lemmas.List.Elements.{All-contains_itself, filter-append, recursion_from_All}
use Rattle.std.proofs.lemmas.List.Sums.{fold-append, sum_by-append, sum_by-cons}
use Rattle.std.proofs.lemmas.Option.{slice_get_within}
use Rattle.std.specs.List.{AllByRecursion, Contains}
use Rattle.std.specs.Prelude.{slice_get, sum_by}
use Rattle.mely_event.specs.declared.colour.Colour.{Colour}
use Rattle.mely_history.specs.declared.entry.Entry.{Entry}
use Rattle.mely_history.specs.declared.setup.Setup.{Setup}
use Rattle.mely_history.specs.Setup.{colours_of}
use Rattle.mely_history.proofs.LegalAccountLemmas.{same_colour}
use Rattle.mely_app.specs.Puts.{sum_colours}
use Rattle.mely_app.proofs.PutsLemmas.{colours_both, colours_one, colours_same}
use Rattle.mely_cause.proofs.SerialLawLemmas.{count_state, sum_listed, sum_states}
use Rattle.mely_actor.specs.declared.actor.Actor.{Ghosts as ActorWords}
use Rattle.mely_actor.specs.Received.{AreKept}
use Rattle.mely_actor.specs.Serial.{Receipt, ReceivedByOne, receipts_on, received_in, sent_in, values_after, values_along}
use Rattle.mely_actor.proofs.SerialLemmas.{received_more, sent_more}
use Rattle.mely_actor.proofs.WaitingLemmas.{all_both, all_left, all_right}

-- ---- values and receipts

module _ {M V : Type 0} where
  -- a receipt changes the value of its colour alone
  pub value_own : (values : Colour → Option V) (receipt : Receipt M V) (c : Colour) → c.0 ≡ receipt.colour.0 → values_after values receipt c ≡ Some receipt.becomes
  value_own values receipt c own = ap (λ b. if b then Some receipt.becomes else values c) (eq-eqb c.0 receipt.colour.0 own)

  pub value_other : (values : Colour → Option V) (receipt : Receipt M V) (c : Colour) → (c.0 ≡ receipt.colour.0 → ⊥) → values_after values receipt c ≡ values c
  value_other values receipt c other = ap (λ b. if b then Some receipt.becomes else values c) (ne_eqb c.0 receipt.colour.0 other)

  -- who has a value has one in the end
  stays : (receipts : List (Receipt M V)) (values left : Colour → Option V) (under_way : List (Colour × M)) (c : Colour) (value : V) → ReceivedByOne values under_way receipts left → values c ≡ Some value → (last : V) × (left c ≡ Some last)
  stays [] values left under_way c value made at = (value, made.1 c ∙ at)
  stays (receipt ∷ later) values left under_way c value (front, back, is, own, made) at =
      let now : (next : V) × (values_after values receipt c ≡ Some next) = elim (cases_eq c.0 receipt.colour.0) [
        | inl same ↦ (receipt.becomes, value_own values receipt c same)
        | inr apart ↦ (value, value_other values receipt c apart ∙ at)
      ] in
      stays later (values_after values receipt) left (front ++ back ++ receipt.sends) c now.0 made now.1

  -- what is under way is received: what is so of each receipt is so of that
  under_way_so : (Is : Colour × M → Type 0) (receipts : List (Receipt M V)) (values left : Colour → Option V) (under_way : List (Colour × M)) → AllByRecursion (λ receipt. Is (receipt.colour, receipt.message)) receipts → ReceivedByOne values under_way receipts left → AllByRecursion Is under_way
  under_way_so Is [] values left under_way each made = subst (AllByRecursion Is) (sym made.0) tt
  under_way_so Is (receipt ∷ later) values left under_way each (front, back, is, own, made) =
      let rest = under_way_so Is later (values_after values receipt) left (front ++ back ++ receipt.sends) each.1 made in
      let both = all_left Is (front ++ back) receipt.sends rest in
      subst (AllByRecursion Is) (sym is) (all_both Is front ((receipt.colour, receipt.message) ∷ back) (all_left Is front back both) (each.0, all_right Is front back both))

  -- and of all that is sent
  all_sends_so : (Is : Colour × M → Type 0) (receipts : List (Receipt M V)) (values left : Colour → Option V) (under_way : List (Colour × M)) → AllByRecursion (λ receipt. Is (receipt.colour, receipt.message)) receipts → ReceivedByOne values under_way receipts left → AllByRecursion (λ receipt. AllByRecursion Is receipt.sends) receipts
  all_sends_so Is [] values left under_way each made = tt
  all_sends_so Is (receipt ∷ later) values left under_way each (front, back, is, own, made) = (
    all_right Is (front ++ back) receipt.sends (under_way_so Is later (values_after values receipt) left (front ++ back ++ receipt.sends) each.1 made),
    all_sends_so Is later (values_after values receipt) left (front ++ back ++ receipt.sends) each.1 made,
  )

  -- what is so of the receipts of each colour is so of all
  fewer : (Is : Receipt M V → Type 0) (c : Colour) (receipt : Receipt M V) (later : List (Receipt M V)) (own : Bool) → AllByRecursion Is (cond own (receipt ∷ receipts_on c later) (receipts_on c later)) → AllByRecursion Is (receipts_on c later)
  fewer Is c receipt later true each = each.1
  fewer Is c receipt later false each = each

  of_each : (Is : Receipt M V → Type 0) (receipts : List (Receipt M V)) → ((c : Colour) → AllByRecursion Is (receipts_on c receipts)) → AllByRecursion Is receipts
  of_each Is [] each = tt
  of_each Is (receipt ∷ later) each =
      let own : AllByRecursion Is (receipt ∷ receipts_on receipt.colour later) = subst (λ own. AllByRecursion Is (cond own (receipt ∷ receipts_on receipt.colour later) (receipts_on receipt.colour later))) (eq-eqb receipt.colour.0 receipt.colour.0 refl) (each receipt.colour) in
      (own.0, of_each Is later (λ c. fewer Is c receipt later (receipt.colour.0 == c.0) (each c)))

  -- and of all so of the messages of each colour
  messages_so : (Is : Colour → M → Type 0) (c : Colour) (receipts : List (Receipt M V)) → AllByRecursion (λ receipt. Is receipt.colour receipt.message) receipts → AllByRecursion (Is c) (received_in c receipts)
  messages_so Is c [] each = tt
  messages_so Is c (receipt ∷ later) each = for (receipt.colour.0 == c.0) refl (messages_so Is c later each.1) where
    for : (own : Bool) → (receipt.colour.0 == c.0) ≡ own → AllByRecursion (Is c) (received_in c later) → AllByRecursion (Is c) (map (λ r. r.message) (cond own (receipt ∷ receipts_on c later) (receipts_on c later)))
    for true is rest = (subst (λ d. Is d receipt.message) (same_colour receipt.colour c (eqb-true receipt.colour.0 c.0 is)) each.0, rest)
    for false is rest = rest

-- the elements of a list are its elements
all_itself : {X : Type 0} (xs : List X) → AllByRecursion (Contains xs) xs
all_itself xs = recursion_from_All (Contains xs) xs (All-contains_itself xs)

module _ {M V : Type 0} where
  -- of each of these receipts, with those before it
  abbrev pub AllAlong : (List (Receipt M V) → Receipt M V → Type 0) → List (Receipt M V) → List (Receipt M V) → Type 0
  AllAlong Is before [] = Unit {0}
  AllAlong Is before (receipt ∷ later) = Is before receipt × AllAlong Is (before ++ receipt ∷ []) later

  pub along_at : (Is : List (Receipt M V) → Receipt M V → Type 0) (before all some later : List (Receipt M V)) (receipt : Receipt M V) → AllAlong Is before all → all ≡ some ++ receipt ∷ later → Is (before ++ some) receipt
  along_at Is before [] [] later receipt each is = cc
  along_at Is before [] (one ∷ some) later receipt each is = cc
  along_at Is before (first ∷ all) [] later receipt each is =
      let same : first ≡ receipt = cc in
      subst (λ l. Is l receipt) (sym (append-nil before)) (subst (Is before) same each.0)
  along_at Is before (first ∷ all) (one ∷ some) later receipt each is =
      let same : first ≡ one = cc in
      let rest : all ≡ some ++ receipt ∷ later = cc in
      subst (λ l. Is l receipt) (append_assoc before (one ∷ []) some) (along_at Is (before ++ one ∷ []) all some later receipt (subst (λ r. AllAlong Is (before ++ r ∷ []) all) same each.1) rest)

-- ---- what is known of each receipt

module _ {A V M : Type 0} (a : ActorWords A V M) (actor : A) (setup : Setup) (posts : List (Colour × M)) (histories : List (List Entry)) (values : List V) (kept : AreKept a actor setup posts histories values) where
  abbrev pub Receipts : Type 0
  Receipts = List (Receipt M V)

  -- the values with which the colours begin, and those that are left
  abbrev pub given_values : Colour → Option V
  given_values c = slice_get kept.serial.first c.0

  abbrev pub left_values : Colour → Option V
  left_values c = slice_get values c.0

  -- a colour that there is may be sent the message
  abbrev pub MayReceive : Colour × M → Type 0
  MayReceive send = (send.0.0 < colours_of setup) × a.sound actor send.0 send.1

  -- A receipt comes behind those before it: its colour may receive it, the value keeps the author's
  -- fact before it and after it, and what is sent may be received.
  pub record Comes (before : Receipts) (receipt : Receipt M V) : Type 0 where
    pub later : Receipts
    pub place : kept.serial.all ≡ before ++ receipt ∷ later
    pub may : MayReceive (receipt.colour, receipt.message)
    pub was : a.kept actor receipt.colour (received_in receipt.colour before) (sent_in receipt.colour before) receipt.value
    pub is : a.kept actor receipt.colour (received_in receipt.colour before ++ receipt.message ∷ []) (sent_in receipt.colour before ++ receipt.sends) receipt.becomes
    pub sends_may : AllByRecursion MayReceive receipt.sends

  -- each colour begins so
  pub begins : (c : Colour) (value : V) → given_values c ≡ Some value → a.kept actor c [] [] value
  begins c value at = kept.serial.kept [] kept.serial.all refl c value at

  there : (receipts : Receipts) (now : Colour → Option V) (under_way : List (Colour × M)) → ReceivedByOne now under_way receipts left_values → AllByRecursion (λ receipt. receipt.colour.0 < colours_of setup) receipts
  there [] now under_way made = tt
  there (receipt ∷ later) now under_way (front, back, is, own, made) =
      let last = stays later (values_after now receipt) left_values (front ++ back ++ receipt.sends) receipt.colour receipt.becomes made (value_own now receipt receipt.colour refl) in
      let within = slice_get_within values receipt.colour.0 last.0 last.1 in
      let many = kept.many in
      (omega (arith, within, many), there later (values_after now receipt) (front ++ back ++ receipt.sends) made)

  each_there : AllByRecursion (λ receipt. receipt.colour.0 < colours_of setup) kept.serial.all
  each_there = there kept.serial.all given_values posts kept.serial.made

  each_may : AllByRecursion (λ receipt. MayReceive (receipt.colour, receipt.message)) kept.serial.all
  each_may = go kept.serial.all each_there (λ c low. subst (AllByRecursion (a.sound actor c)) (sym (kept.serial.each_received c)) (kept.sound c low)) where
    less : (c : Colour) (receipt : Receipt M V) (later : Receipts) (own : Bool) → AllByRecursion (a.sound actor c) (map (λ r. r.message) (cond own (receipt ∷ receipts_on c later) (receipts_on c later))) → AllByRecursion (a.sound actor c) (received_in c later)
    less c receipt later true each = each.1
    less c receipt later false each = each

    go : (receipts : Receipts) → AllByRecursion (λ receipt. receipt.colour.0 < colours_of setup) receipts → ((c : Colour) → c.0 < colours_of setup → AllByRecursion (a.sound actor c) (received_in c receipts)) → AllByRecursion (λ receipt. MayReceive (receipt.colour, receipt.message)) receipts
    go [] low each = tt
    go (receipt ∷ later) low each =
        let own : AllByRecursion (a.sound actor receipt.colour) (receipt.message ∷ received_in receipt.colour later) = subst (λ own. AllByRecursion (a.sound actor receipt.colour) (map (λ r. r.message) (cond own (receipt ∷ receipts_on receipt.colour later) (receipts_on receipt.colour later)))) (eq-eqb receipt.colour.0 receipt.colour.0 refl) (each receipt.colour low.0) in
        ((low.0, own.0), go later low.1 (λ c under. less c receipt later (receipt.colour.0 == c.0) (each c under)))

  come : (before receipts : Receipts) (under_way : List (Colour × M)) → kept.serial.all ≡ before ++ receipts → AllByRecursion (λ receipt. MayReceive (receipt.colour, receipt.message)) receipts → AllByRecursion (λ receipt. AllByRecursion MayReceive receipt.sends) receipts
      → (now : Colour → Option V) → now ≡ values_along given_values before → ReceivedByOne now under_way receipts left_values → AllAlong Comes before receipts
  come before [] under_way cut may sends now is_now made = tt
  come before (receipt ∷ later) under_way cut may sends now is_now (front, back, is, own, made) =
      let so_far = values_along given_values before in
      let next = before ++ receipt ∷ [] in
      let cut_next : kept.serial.all ≡ next ++ later = cut ∙ sym (append_assoc before (receipt ∷ []) later) in
      let values_next : values_after now receipt ≡ values_along given_values next = ap (λ v. values_after v receipt) is_now ∙ sym (fold-append values_after given_values before (receipt ∷ [])) in
      let after : values_along given_values next receipt.colour ≡ Some receipt.becomes = ap (λ v. v receipt.colour) (sym values_next) ∙ value_own now receipt receipt.colour refl in
      let keeps = kept.serial.kept next later cut_next receipt.colour receipt.becomes after in (
        record {
          later = later;
          place = cut;
          may = may.0;
          was = kept.serial.kept before (receipt ∷ later) cut receipt.colour receipt.value (ap (λ v. v receipt.colour) (sym is_now) ∙ own);
          is = subst (λ l. a.kept actor receipt.colour l (sent_in receipt.colour before ++ receipt.sends) receipt.becomes) (received_more before receipt receipt.colour refl)
              (subst (λ l. a.kept actor receipt.colour (received_in receipt.colour next) l receipt.becomes) (sent_more before receipt receipt.colour refl) keeps);
          sends_may = sends.0;
        },
        come next later (front ++ back ++ receipt.sends) cut_next may.1 sends.1 (values_after now receipt) values_next made,
      )

  pub all_come : AllAlong Comes [] kept.serial.all
  all_come = come [] kept.serial.all posts refl each_may (all_sends_so MayReceive kept.serial.all given_values left_values posts each_may kept.serial.made) given_values refl kept.serial.made

  pub comes_at : (before later : Receipts) (receipt : Receipt M V) → kept.serial.all ≡ before ++ receipt ∷ later → Comes before receipt
  comes_at before later receipt is = along_at Comes [] kept.serial.all before later receipt all_come is

  -- what a colour has received by a receipt is the beginning of what it received
  pub received_so_far : (before : Receipts) (receipt : Receipt M V) → Comes before receipt → (more : List M) × (kept.received receipt.colour ≡ (received_in receipt.colour before ++ receipt.message ∷ []) ++ more)
  received_so_far before receipt comes =
      let c = receipt.colour in
      let cut : kept.serial.all ≡ (before ++ receipt ∷ []) ++ comes.later = comes.place ∙ sym (append_assoc before (receipt ∷ []) comes.later) in (
        received_in c comes.later,
        sym (kept.serial.each_received c) ∙ ap (received_in c) cut ∙ ap (map (λ (r : Receipt M V). r.message)) (filter-append (λ (r : Receipt M V). r.colour.0 == c.0) (before ++ receipt ∷ []) comes.later)
            ∙ map-append (λ (r : Receipt M V). r.message) (receipts_on c (before ++ receipt ∷ [])) (receipts_on c comes.later) ∙ ap (λ l. l ++ received_in c comes.later) (received_more before receipt c refl),
      )

  -- ---- what each receipt keeps

  module _ (Holds : Receipts → (Colour → Option V) → List (Colour × M) → Type 0)
      (keeps : (before : Receipts) (now : Colour → Option V) (front back : List (Colour × M)) (receipt : Receipt M V) → Comes before receipt → now receipt.colour ≡ Some receipt.value → Holds before now (front ++ (receipt.colour, receipt.message) ∷ back) → Holds (before ++ receipt ∷ []) (values_after now receipt) (front ++ back ++ receipt.sends))
      (first : Holds [] given_values posts) where
    -- a receipt came where it held
    pub record CameWhere (before : Receipts) (receipt : Receipt M V) : Type 0 where
      pub now : Colour → Option V
      pub front : List (Colour × M)
      pub back : List (Colour × M)
      pub value : now receipt.colour ≡ Some receipt.value
      pub held : Holds before now (front ++ (receipt.colour, receipt.message) ∷ back)

    along : (before receipts : Receipts) (now : Colour → Option V) (under_way : List (Colour × M)) → AllAlong Comes before receipts → ReceivedByOne now under_way receipts left_values → Holds before now under_way → Holds (before ++ receipts) left_values []
    along before [] now under_way all made holds =
        let last : left_values ≡ now = λ i c. made.1 c i in
        subst (λ l. Holds l left_values []) (sym (append-nil before)) (subst (λ l. Holds before left_values l) made.0 (subst (λ v. Holds before v under_way) (sym last) holds))
    along before (receipt ∷ later) now under_way all (front, back, is, own, made) holds =
        subst (λ l. Holds l left_values []) (append_assoc before (receipt ∷ []) later)
        (along (before ++ receipt ∷ []) later (values_after now receipt) (front ++ back ++ receipt.sends) all.1 made (keeps before now front back receipt all.0 own (subst (λ l. Holds before now l) is holds)))

    -- it holds in the end
    pub in_the_end : Holds kept.serial.all left_values []
    in_the_end = along [] kept.serial.all given_values posts all_come kept.serial.made first

    each_where : (Is : Receipts → Receipt M V → Type 0) → ((before : Receipts) (receipt : Receipt M V) → Comes before receipt → CameWhere before receipt → Is before receipt)
        → (before receipts : Receipts) (now : Colour → Option V) (under_way : List (Colour × M)) → AllAlong Comes before receipts → ReceivedByOne now under_way receipts left_values → Holds before now under_way → AllAlong Is before receipts
    each_where Is so before [] now under_way all made holds = tt
    each_where Is so before (receipt ∷ later) now under_way all (front, back, is, own, made) holds =
        let here = subst (λ l. Holds before now l) is holds in (
          so before receipt all.0 (record { now = now; front = front; back = back; value = own; held = here }),
          each_where Is so (before ++ receipt ∷ []) later (values_after now receipt) (front ++ back ++ receipt.sends) all.1 made (keeps before now front back receipt all.0 own here),
        )

    -- and what follows from it where a message is received is so of each receipt
    pub whenever : (Is : Receipts → Receipt M V → Type 0) → ((before : Receipts) (receipt : Receipt M V) → Comes before receipt → CameWhere before receipt → Is before receipt) → (before later : Receipts) (receipt : Receipt M V) → kept.serial.all ≡ before ++ receipt ∷ later → Is before receipt
    whenever Is so before later receipt is = along_at Is [] kept.serial.all before later receipt (each_where Is so [] kept.serial.all given_values posts all_come kept.serial.made first) is

    -- and of each message that a colour received
    pub each_message : (Is : Colour → M → Type 0) → ((before : Receipts) (receipt : Receipt M V) → Comes before receipt → CameWhere before receipt → Is receipt.colour receipt.message) → (c : Colour) → AllByRecursion (Is c) (kept.received c)
    each_message Is so c =
        subst (AllByRecursion (Is c)) (kept.serial.each_received c)
        (messages_so Is c kept.serial.all (forget [] kept.serial.all (each_where (λ before receipt. Is receipt.colour receipt.message) so [] kept.serial.all given_values posts all_come kept.serial.made first)))
      where
        forget : (before receipts : Receipts) → AllAlong (λ before receipt. Is receipt.colour receipt.message) before receipts → AllByRecursion (λ receipt. Is receipt.colour receipt.message) receipts
        forget before [] each = tt
        forget before (receipt ∷ later) each = (each.0, forget (before ++ receipt ∷ []) later each.1)

  -- ---- causes

  -- one of these receipts sent it
  pub record WasSent (before : Receipts) (send : Colour × M) : Type 0 where
    pub earlier : Receipts
    pub by : Receipt M V
    pub between : Receipts
    pub place : before ≡ earlier ++ by ∷ between
    pub sends : Contains by.sends send

  -- it was posted, or sent so
  abbrev pub HasCause : Receipts → Colour × M → Type 0
  HasCause before send = Contains posts send ⊎ WasSent before send

  later_too : (before : Receipts) (receipt : Receipt M V) (some : List (Colour × M)) → AllByRecursion (HasCause before) some → AllByRecursion (HasCause (before ++ receipt ∷ [])) some
  later_too before receipt [] each = tt
  later_too before receipt (send ∷ some) each = (go each.0, later_too before receipt some each.1) where
    go : HasCause before send → HasCause (before ++ receipt ∷ []) send
    go (inl posted) = inl posted
    go (inr was) = inr (record { earlier = was.earlier; by = was.by; between = was.between ++ receipt ∷ []; place = ap (λ l. l ++ receipt ∷ []) was.place ∙ append_assoc was.earlier (was.by ∷ was.between) (receipt ∷ []); sends = was.sends })

  just_sent : (before : Receipts) (receipt : Receipt M V) (some : List (Colour × M)) → AllByRecursion (Contains receipt.sends) some → AllByRecursion (HasCause (before ++ receipt ∷ [])) some
  just_sent before receipt [] each = tt
  just_sent before receipt (send ∷ some) each = (inr (record { earlier = before; by = receipt; between = []; place = refl; sends = each.0 }), just_sent before receipt some each.1)

  were_posted : (some : List (Colour × M)) → AllByRecursion (Contains posts) some → AllByRecursion (HasCause []) some
  were_posted [] each = tt
  were_posted (send ∷ some) each = (inl each.0, were_posted some each.1)

  -- each message that is received was posted, or sent by a receipt before it
  pub has_cause : (before later : Receipts) (receipt : Receipt M V) → kept.serial.all ≡ before ++ receipt ∷ later → HasCause before (receipt.colour, receipt.message)
  has_cause = whenever (λ before now under_way. AllByRecursion (HasCause before) under_way)
      (λ before now front back receipt comes at each.
      let own : Colour × M = (receipt.colour, receipt.message) in
      let rest = all_both (HasCause before) front back (all_left (HasCause before) front (own ∷ back) each) (all_right (HasCause before) front (own ∷ back) each).1 in
      all_both (HasCause (before ++ receipt ∷ [])) (front ++ back) receipt.sends (later_too before receipt (front ++ back) rest) (just_sent before receipt receipt.sends (all_itself receipt.sends)))
      (were_posted posts (all_itself posts))
      (λ before receipt. HasCause before (receipt.colour, receipt.message))
      (λ before receipt comes came. (all_right (HasCause before) came.front ((receipt.colour, receipt.message) ∷ came.back) came.held).0)

  -- and what is known of the receipt that sent it
  pub sender_comes : (before later : Receipts) (receipt : Receipt M V) → kept.serial.all ≡ before ++ receipt ∷ later → (send : Colour × M) (was : WasSent before send) → Comes was.earlier was.by
  sender_comes before later receipt is send was = comes_at was.earlier (was.between ++ receipt ∷ later) was.by (is ∙ ap (λ l. l ++ receipt ∷ later) was.place ∙ append_assoc was.earlier (was.by ∷ was.between) (receipt ∷ later))

  -- ---- sums over all values and all that is under way

  module _ (f : Colour → V → ℕ) (worth : Colour × M → ℕ) where
    abbrev pub sum_values : (Colour → Option V) → ℕ
    sum_values now = sum_states f (colours_of setup) now

    as_colours : (n : ℕ) (now : Colour → Option V) → sum_states f n now ≡ sum_colours n (λ c. count_state f c (now c))
    as_colours zero now = refl
    as_colours (suc n) now = let rest = as_colours n now in omega (arith, rest)

    -- a receipt changes one of the values
    sum_after : (now : Colour → Option V) (receipt : Receipt M V) → receipt.colour.0 < colours_of setup → now receipt.colour ≡ Some receipt.value → sum_values (values_after now receipt) + f receipt.colour receipt.value ≡ sum_values now + f receipt.colour receipt.becomes
    sum_after now receipt low at =
        let n = colours_of setup in
        let c = receipt.colour in
        let was = as_colours n now in
        let is = as_colours n (values_after now receipt) in
        let one = colours_one n c (f c receipt.value) low in
        let other = colours_one n c (f c receipt.becomes) low in
        let first = colours_both n (λ d. count_state f d (values_after now receipt d)) (λ d. if c.0 == d.0 then f c receipt.value else 0) in
        let second = colours_both n (λ d. count_state f d (now d)) (λ d. if c.0 == d.0 then f c receipt.becomes else 0) in
        let each = colours_same n (λ d. count_state f d (values_after now receipt d) + (if c.0 == d.0 then f c receipt.value else 0)) (λ d. count_state f d (now d) + (if c.0 == d.0 then f c receipt.becomes else 0)) (λ d _. at_one d) in
        omega (arith, was, is, one, other, first, second, each)
      where
        at_one : (d : Colour) → count_state f d (values_after now receipt d) + (if receipt.colour.0 == d.0 then f receipt.colour receipt.value else 0) ≡ count_state f d (now d) + (if receipt.colour.0 == d.0 then f receipt.colour receipt.becomes else 0)
        at_one d = elim (cases_eq d.0 receipt.colour.0) [
          | inl same ↦
              let mine : d ≡ receipt.colour = same_colour d receipt.colour same in
              let after : count_state f d (values_after now receipt d) ≡ f receipt.colour receipt.becomes = ap (count_state f d) (value_own now receipt d same) ∙ ap (λ x. f x receipt.becomes) mine in
              let before : count_state f d (now d) ≡ f receipt.colour receipt.value = ap (count_state f d) (ap now mine ∙ at) ∙ ap (λ x. f x receipt.value) mine in
              let one = ap (λ b. if b then f receipt.colour receipt.value else 0) (eq-eqb receipt.colour.0 d.0 (sym same)) in
              let other = ap (λ b. if b then f receipt.colour receipt.becomes else 0) (eq-eqb receipt.colour.0 d.0 (sym same)) in
              omega (arith, after, before, one, other)
          | inr apart ↦
              let after = ap (count_state f d) (value_other now receipt d apart) in
              let one = ap (λ b. if b then f receipt.colour receipt.value else 0) (ne_eqb receipt.colour.0 d.0 (λ same. apart (sym same))) in
              let other = ap (λ b. if b then f receipt.colour receipt.becomes else 0) (ne_eqb receipt.colour.0 d.0 (λ same. apart (sym same))) in
              omega (arith, after, one, other)
        ]

    -- what a receipt takes and sends, of its value and of what is under way
    whole_after : (now : Colour → Option V) (front back : List (Colour × M)) (receipt : Receipt M V) → receipt.colour.0 < colours_of setup → now receipt.colour ≡ Some receipt.value
        → sum_values (values_after now receipt) + sum_by worth (front ++ back ++ receipt.sends) + (f receipt.colour receipt.value + worth (receipt.colour, receipt.message)) ≡ sum_values now + sum_by worth (front ++ (receipt.colour, receipt.message) ∷ back) + (f receipt.colour receipt.becomes + sum_by worth receipt.sends)
    whole_after now front back receipt low at =
        let changed = sum_after now receipt low at in
        let after = sum_by-append worth (front ++ back) receipt.sends in
        let both = sum_by-append worth front back in
        let before = sum_by-append worth front ((receipt.colour, receipt.message) ∷ back) in
        let one = sum_by-cons worth (receipt.colour, receipt.message) back in
        omega (arith, changed, after, both, before, one)

    -- where each receipt keeps the sum, it is in the end what it was with the posts
    pub sum_kept : ((before : Receipts) (receipt : Receipt M V) → Comes before receipt → f receipt.colour receipt.becomes + sum_by worth receipt.sends ≡ f receipt.colour receipt.value + worth (receipt.colour, receipt.message)) → sum_values left_values ≡ sum_values given_values + sum_by worth posts
    sum_kept same =
        let end = in_the_end (λ before now under_way. sum_values now + sum_by worth under_way ≡ sum_values given_values + sum_by worth posts)
        (λ before now front back receipt comes at so.
        let changed = whole_after now front back receipt comes.may.0 at in
        let one = same before receipt comes in
        omega (arith, so, changed, one))
        refl in
        omega (arith, end)

    -- where none makes it more, it is no more
    pub sum_no_more : ((before : Receipts) (receipt : Receipt M V) → Comes before receipt → f receipt.colour receipt.becomes + sum_by worth receipt.sends ≤ f receipt.colour receipt.value + worth (receipt.colour, receipt.message)) → sum_values left_values ≤ sum_values given_values + sum_by worth posts
    sum_no_more few =
        let end = in_the_end (λ before now under_way. sum_values now + sum_by worth under_way ≤ sum_values given_values + sum_by worth posts)
        (λ before now front back receipt comes at so.
        let changed = whole_after now front back receipt comes.may.0 at in
        let one = few before receipt comes in
        omega (arith, so, changed, one))
        (omega arith) in
        omega (arith, end)

    -- where each colour begins with nothing of it
    pub given_none : ((c : Colour) (value : V) → a.kept actor c [] [] value → f c value ≡ 0) → sum_values given_values ≡ 0
    given_none none = go (colours_of setup) where
      one : (c : Colour) (value : Option V) → given_values c ≡ value → count_state f c value ≡ 0
      one c None at = refl
      one c (Some value) at = none c value (begins c value at)

      go : (n : ℕ) → sum_states f n given_values ≡ 0
      go zero = refl
      go (suc n) = let rest = go n in let last = one (record { 0 = n }) (given_values (record { 0 = n })) refl in omega (arith, rest, last)

  -- the same of the values that are handed out, where the number is the same for all colours
  module _ (f : V → ℕ) (worth : Colour × M → ℕ) where
    given_listed : sum_values (λ c. f) worth given_values ≡ sum_by f kept.serial.first
    given_listed =
        let many = kept.many in
        let first = kept.serial.many in
        let same : colours_of setup ≡ length kept.serial.first = omega (arith, many, first) in
        ap (λ n. sum_states (λ c. f) n given_values) same ∙ sum_listed f kept.serial.first

    left_listed : sum_values (λ c. f) worth left_values ≡ sum_by f values
    left_listed = ap (λ n. sum_states (λ c. f) n left_values) (sym kept.many) ∙ sum_listed f values

    -- where each receipt keeps the sum, it is in the end what it was with the posts
    pub total_kept : ((before : Receipts) (receipt : Receipt M V) → Comes before receipt → f receipt.becomes + sum_by worth receipt.sends ≡ f receipt.value + worth (receipt.colour, receipt.message)) → sum_by f values ≡ sum_by f kept.serial.first + sum_by worth posts
    total_kept same =
        let all = sum_kept (λ c. f) worth same in
        let first = given_listed in
        let last = left_listed in
        omega (arith, all, first, last)

    -- where none makes it more, it is no more
    pub total_no_more : ((before : Receipts) (receipt : Receipt M V) → Comes before receipt → f receipt.becomes + sum_by worth receipt.sends ≤ f receipt.value + worth (receipt.colour, receipt.message)) → sum_by f values ≤ sum_by f kept.serial.first + sum_by worth posts
    total_no_more few =
        let all = sum_no_more (λ c. f) worth few in
        let first = given_listed in
        let last = left_listed in
        omega (arith, all, first, last)

    -- where each colour begins with nothing of it
    pub first_none : ((c : Colour) (value : V) → a.kept actor c [] [] value → f value ≡ 0) → sum_by f kept.serial.first ≡ 0
    first_none none = sym given_listed ∙ given_none (λ c. f) worth none
