-- What the actors of the store keep is what it has come to.
use Rattle.std.proofs.Common.{◌≡◌, ◌<◌, ◌≤◌, ◌+◌, ◌==◌, ℕ, zero, suc, List, [], ◌∷◌, ◌++◌, ◌⊎◌, Option, None, Some, map, if◌then◌else◌, refl, sym, ◌∙◌, ap, subst, arith, inl, inr, ne_eqb}
use Rattle.std.proofs.lemmas.List.Elements.{All-contains, All-from_recursion}
use Rattle.std.proofs.lemmas.List.Sums.{sum_by-cons}
use Rattle.std.proofs.lemmas.Option.{same_Some}
use Rattle.std.specs.Global.{Global}
use Rattle.std.specs.List.{AllByRecursion, Contains}
use Rattle.std.specs.Prelude.{String}
use Rattle.mely_event.specs.declared.colour.Colour.{Colour}
use Rattle.mely_history.specs.declared.entry.Entry.{Entry}
use Rattle.mely_history.specs.declared.setup.Setup.{Setup}
use Rattle.mely_history.specs.Setup.{colours_of}
use Rattle.mely_weave.proofs.Wholes.GatherLemmas.{get_there}
use Rattle.mely_app.specs.Puts.{sum_colours}
use Rattle.mely_actor.specs.declared.actor.Actor.{Ghosts as ActorWords}
use Rattle.mely_actor.specs.Received.{AreKept}
use Rattle.mely_actor.specs.Sending.{count_to}
use Rattle.mely_actor.specs.Serial.{Receipt, received_in, sent_in}
use Rattle.mely_actor.proofs.ListLemmas.{all_so, arrived_by}
use Rattle.mely_actor.proofs.MomentLemmas.{Comes, HasCause, WasSent, has_cause, sender_comes}
use Rattle.mely_actor.proofs.SilentLemmas.{quiet_counts}
use Rattle.example_store.specs.declared.message.Message.{Message}
use Rattle.example_store.specs.declared.message.Message.TheVariants.{Put, Get, Answer}
use Rattle.example_store.specs.declared.store.Slot.{Slot}
use Rattle.example_store.specs.declared.store.TheConstants.{BUCKETS, CLIENTS}
use Rattle.example_store.specs.Served.{IsServed, WasAsked}
use Rattle.example_store.specs.Stores.{IsPlaced, IsStored, Reply, after_one, found_in, replies, reply_in, reply_to, text_of}
use Rattle.example_store.proofs.StoredLemmas.{all_in, new_replies}

-- a reply goes to a client
abbrev IsBehind : Option Reply → Type 0
IsBehind None = ⊥
IsBehind (Some reply) = BUCKETS ≤ reply.0.0

replies_behind : (entries : List (ℕ × String Global)) (received : List Message) → AllByRecursion IsBehind (replies entries received)
replies_behind entries [] = tt
replies_behind entries (Put key value ∷ more) = replies_behind (after_one entries (Put key value)) more
replies_behind entries (Get key client ∷ more) = (omega arith, replies_behind entries more)
replies_behind entries (Answer key found ∷ more) = replies_behind entries more

-- so nothing that is sent goes to a bucket
none_to : (c : Colour) (number : Message → ℕ) (sent : List (Colour × Message)) → c.0 < BUCKETS → AllByRecursion IsBehind (all_in sent) → count_to c number sent ≡ 0
none_to c number [] low all = refl
none_to c number ((to, Put key value) ∷ sent) low all = absurd all.0
none_to c number ((to, Get key client) ∷ sent) low all = absurd all.0
none_to c number ((to, Answer key found) ∷ sent) low all =
    let rest = none_to c number sent low all.1 in
    let high = all.0 in
    let here : (if to.0 == c.0 then number (Answer key found) else 0) ≡ 0 = ap (λ b. if b then number (Answer key found) else 0) (ne_eqb to.0 c.0 (λ e. omega (arith, e, low, high))) in
    let one = sum_by-cons (λ (s : Colour × Message). if s.0.0 == c.0 then number s.1 else 0) (to, Answer key found) sent in
    omega (arith, rest, here, one)

-- a client sends nothing
nothing_replied : (c : Colour) (entries : List (ℕ × String Global)) (received : List Message) → BUCKETS ≤ c.0 → AllByRecursion (IsPlaced c) received → replies entries received ≡ []
nothing_replied c entries [] high placed = refl
nothing_replied c entries (Put key value ∷ more) high placed = absurd (let at = placed.0 in omega (arith, high, at))
nothing_replied c entries (Get key client ∷ more) high placed = absurd (let at = placed.0.0 in omega (arith, high, at))
nothing_replied c entries (Answer key found ∷ more) high placed = nothing_replied c entries more high placed.1

nothing_sent : (sent : List (Colour × Message)) → map (λ (send : Colour × Message). reply_in send.0 send.1) sent ≡ [] → sent ≡ []
nothing_sent [] none = refl
nothing_sent (send ∷ sent) none = cc

-- ---- an answer that was sent

none_sent : {A : Type 0} (sent : List (Colour × Message)) (send : Colour × Message) → all_in sent ≡ [] → Contains sent send → A
none_sent [] send none (k, low, at) = absurd (omega (arith, low))
none_sent (one ∷ sent) send none there = cc

all_are : (sent : List (Colour × Message)) (reply : Option Reply) → all_in sent ≡ reply ∷ [] → AllByRecursion (λ send. reply_in send.0 send.1 ≡ reply) sent
all_are [] reply is = tt
all_are (send ∷ []) reply is = (cc, tt)
all_are (send ∷ other ∷ sent) reply is = cc

-- the message asked for the key, and this is what the entries had
told_by : (entries : List (ℕ × String Global)) (message : Message) (sent : List (Colour × Message)) (to : Colour) (key : ℕ) (found : Option (String Global)) → all_in sent ≡ reply_to entries message → Contains sent (to, Answer key found) → (client : ℕ) × (message ≡ Get key client) × (to ≡ record { 0 = BUCKETS + client }) × (text_of found ≡ found_in entries key)
told_by entries (Put k value) sent to key found replied there = none_sent sent (to, Answer key found) replied there
told_by entries (Answer k value) sent to key found replied there = none_sent sent (to, Answer key found) replied there
told_by entries (Get k client) sent to key found replied there =
    let one : Reply = (record { 0 = BUCKETS + client }, k, found_in entries k) in
    let Is : Colour × Message → Type 0 = λ send. reply_in send.0 send.1 ≡ Some one in
    let is : (to, key, text_of found) ≡ one = same_Some (to, key, text_of found) one (All-contains Is sent (to, Answer key found) (All-from_recursion Is sent (all_are sent (Some one) replied)) there) in
    let same : key ≡ k = ap (λ (r : Reply). r.1) is in
    (client, ap (λ n. Get n client) (sym same), ap (λ (r : Reply). r.0) is, ap (λ (r : Reply). r.2) is ∙ ap (found_in entries) (sym same))

-- a sum in which only the first colours count
first_colours : (n k : ℕ) (f : Colour → ℕ) → ((d : Colour) → n ≤ d.0 → d.0 < n + k → f d ≡ 0) → sum_colours (n + k) f ≡ sum_colours n f
first_colours n zero f none = ap (λ m. sum_colours m f) (let same : n + 0 ≡ n = omega arith in same)
first_colours n (suc k) f none =
    let rest = first_colours n k f (λ d high low. none d high (omega (arith, low))) in
    let last = none (record { 0 = n + k }) (omega arith) (omega arith) in
    let more = ap (λ m. sum_colours m f) (let same : n + suc k ≡ suc (n + k) = omega arith in same) in
    omega (arith, rest, last, more)

module _ {A : Type 0} (a : ActorWords A Slot Message) (store : A) (setup : Setup) (posts : List (Colour × Message)) (histories : List (List Entry)) (slots : List Slot) (colours : colours_of setup ≡ BUCKETS + CLIENTS)
    (sounds : (c : Colour) (message : Message) → a.sound store c message → IsPlaced c message) (keeps : (c : Colour) (received : List Message) (sent : List (Colour × Message)) (slot : Slot) → a.kept store c received sent slot → IsStored received sent slot.map.entries slot.answers.items) (kept : AreKept a store setup posts histories slots) where
  placed : (c : Colour) → c.0 < BUCKETS + CLIENTS → AllByRecursion (IsPlaced c) (kept.received c)
  placed c low = all_so (a.sound store c) (IsPlaced c) (kept.received c) (sounds c) (kept.sound c (omega (arith, low, colours)))

  replied : (d : Colour) → d.0 < BUCKETS + CLIENTS → map (λ (send : Colour × Message). reply_in send.0 send.1) (kept.sent d) ≡ replies [] (kept.received d)
  replied d low =
      let many = kept.many in
      let slot = get_there slots d.0 (omega (arith, low, many, colours)) in
      (keeps d (kept.received d) (kept.sent d) slot.0 (kept.kept d slot.0 slot.1)).replied

  to_clients : (d : Colour) → d.0 < BUCKETS + CLIENTS → AllByRecursion IsBehind (all_in (kept.sent d))
  to_clients d low = subst (AllByRecursion IsBehind) (sym (replied d low)) (replies_behind [] (kept.received d))

  silent : (d : Colour) → BUCKETS ≤ d.0 → d.0 < BUCKETS + CLIENTS → kept.sent d ≡ []
  silent d high low = nothing_sent (kept.sent d) (replied d low ∙ nothing_replied d [] (kept.received d) high (placed d low))

  -- the receipt that sent an answer is of a request for it
  asked_by : (before : List (Receipt Message Slot)) (to : Colour) (key : ℕ) (found : Option (String Global)) (was : WasSent a store setup posts histories slots kept before (to, Answer key found)) → Comes a store setup posts histories slots kept was.earlier was.by → WasAsked before to key found
  asked_by before to key found was comes =
      let c = was.by.colour in
      let received = received_in c was.earlier in
      let sent = sent_in c was.earlier in
      let message = was.by.message in
      let stored = keeps c received sent was.by.value comes.was in
      let stored_then = keeps c (received ++ message ∷ []) (sent ++ was.by.sends) was.by.becomes comes.is in
      let replied = new_replies received sent was.by.sends was.by.value.map.entries was.by.value.answers.items message stored was.by.becomes.map.entries was.by.becomes.answers.items stored_then in
      let told = told_by was.by.value.map.entries message was.by.sends to key found replied was.sends in
      record {
        earlier = was.earlier;
        asked = was.by;
        between = was.between;
        place = was.place;
        bucket = (subst (IsPlaced c) told.1 (sounds c message comes.may.1)).0;
        client = told.0;
        get = told.1;
        asks = told.2;
        had = told.3;
      }

  answers_are_true : (before later : List (Receipt Message Slot)) (receipt : Receipt Message Slot) (key : ℕ) (found : Option (String Global)) → kept.serial.all ≡ before ++ receipt ∷ later → receipt.message ≡ Answer key found → Contains posts (receipt.colour, Answer key found) ⊎ WasAsked before receipt.colour key found
  answers_are_true before later receipt key found cut is = for (subst (λ m. HasCause a store setup posts histories slots kept before (receipt.colour, m)) is (has_cause a store setup posts histories slots kept before later receipt cut)) where
    for : HasCause a store setup posts histories slots kept before (receipt.colour, Answer key found) → Contains posts (receipt.colour, Answer key found) ⊎ WasAsked before receipt.colour key found
    for (inl posted) = inl posted
    for (inr was) = inr (asked_by before receipt.colour key found was (sender_comes a store setup posts histories slots kept before later receipt cut (receipt.colour, Answer key found) was))

  pub are_served : IsServed posts slots
  are_served = record {
    colours = kept.many ∙ colours;
    received = kept.received;
    sent = kept.sent;
    placed = placed;
    stored = λ c slot at. keeps c (kept.received c) (kept.sent c) slot (kept.kept c slot at);
    asked = λ c low number. quiet_counts a store setup posts histories slots kept c number (omega (arith, low, colours)) (λ d below. none_to c number (kept.sent d) low (to_clients d (omega (arith, below, colours))));
    answered = λ c low number.
        let counts = arrived_by a store setup posts histories slots kept (BUCKETS + CLIENTS) colours c number low in
        let first = first_colours BUCKETS CLIENTS (λ d. count_to c number (kept.sent d)) (λ d high below. ap (count_to c number) (silent d high below)) in
        omega (arith, counts, first);
    first = kept.serial.first;
    order = kept.serial.all;
    in_order = kept.serial.each_received;
    one_by_one = kept.serial.made;
    answers_are_true = answers_are_true;
  }
