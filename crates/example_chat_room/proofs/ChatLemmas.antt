-- What the actors of a chat keep is what the chat has come to.
use Rattle.std.proofs.Common.{◌≡◌, ◌≢◌, ◌<◌, ◌≤◌, ◌+◌, ◌-◌, ◌==◌, ℕ, zero, suc, Bool, true, false, List, [], ◌∷◌, Option, None, Some, if◌then◌else◌, length, map, refl, sym, ◌∙◌, ap, subst, arith, inl, inr, eq-eqb, ne_eqb}
use Rattle.std.proofs.lemmas.Bool.{cases_eq}
use Rattle.std.specs.List.{AllByRecursion, cons_option, filter_map}
use Rattle.std.specs.Prelude.{is_some, option_and_then, slice_get}
use Rattle.mely_event.specs.declared.colour.Colour.{Colour}
use Rattle.mely_history.proofs.LegalAccountLemmas.{same_colour}
use Rattle.mely_history.specs.Setup.{colours_of, shape_of}
use Rattle.mely_history.specs.declared.entry.Entry.{Entry}
use Rattle.mely_history.specs.declared.setup.Setup.{Setup}
use Rattle.mely_app.specs.Puts.{sum_colours}
use Rattle.mely_actor.specs.Received.{AreKept}
use Rattle.mely_actor.specs.Serial.{ReceivedByOne}
use Rattle.mely_actor.specs.Sending.{count_to, is_sent_by, sends_to, sent_by}
use Rattle.mely_actor.specs.declared.actor.Actor.{Ghosts as ActorWords}
use Rattle.sws_link.specs.Worlds.{Coming, WorldContents}
use Rattle.sws_link.specs.declared.Link.{Ghosts as LinkWords}
use Rattle.example_chat_room.specs.declared.client.Client.{Client}
use Rattle.example_chat_room.specs.declared.desk.Desk.{Desk}
use Rattle.example_chat_room.specs.declared.line.Line.{Line}
use Rattle.example_chat_room.specs.declared.message.Held.{Held}
use Rattle.example_chat_room.specs.declared.message.Message.{Message}
use Rattle.example_chat_room.specs.declared.message.Message.TheVariants.{Poll, Accept, Wait, Open, Wake, Cut, Say, Hear}
use Rattle.example_chat_room.specs.declared.part.Part.{Part}
use Rattle.example_chat_room.specs.declared.part.Part.TheVariants as part
use Rattle.example_chat_room.specs.declared.room.Room.{Room}
use Rattle.example_chat_room.specs.Messages.{IsSigned, MayGet, asks_world, client_at, desk, event_of, has_open, heard_by_sends, heard_in, is_open, line_heard, line_told, room, told_by_sends, told_in}
use Rattle.example_chat_room.specs.Parts.{IsClient, IsDesk, IsPart, IsRoom, IsSeat, KeepsPart, one_if}
use Rattle.example_chat_room.specs.Shown.{FitsLine, said_by}
use Rattle.example_chat_room.specs.Talked.{IsChat}
use Rattle.mely_actor.proofs.PickLemmas.{picked_from, picked_same, picked_twice}

get_there : {X : Type 0} (xs : List X) (n : ℕ) → n < length xs → (x : X) × (slice_get xs n ≡ Some x)
get_there [] n low = absurd (omega (arith, low))
get_there (x ∷ xs) zero low = (x, refl)
get_there (x ∷ xs) (suc n) low = get_there xs n (omega (arith, low))

none_picked : {A X : Type 0} (f : A → Option X) (xs : List A) → AllByRecursion (λ x. f x ≡ None) xs → filter_map f xs ≡ []
none_picked f [] none = refl
none_picked f (x ∷ xs) none = ap (λ o. cons_option o (filter_map f xs)) none.0 ∙ none_picked f xs none.1

all_from : {A : Type 0} (P R : A → Type 0) (xs : List A) → ((x : A) → P x → R x) → AllByRecursion P xs → AllByRecursion R xs
all_from P R [] so all = tt
all_from P R (x ∷ xs) so all = (so x all.0, all_from P R xs so all.1)

-- a filter picks what passes
of_client : ℕ → Line → Option Line
of_client client line = if line.from == client then Some line else None

filtered : (client : ℕ) (lines : List Line) → said_by client lines ≡ filter_map (of_client client) lines
unfolding of_client
filtered client [] = refl
filtered client (line ∷ lines) = for (line.from == client) (filtered client lines) where
  for : (b : Bool) → said_by client lines ≡ filter_map (of_client client) lines → (if b then line ∷ said_by client lines else said_by client lines) ≡ cons_option (if b then Some line else None) (filter_map (of_client client) lines)
  for true rest = ap (λ l. line ∷ l) rest
  for false rest = rest

own_line : (client : ℕ) (line : Line) → line.from ≡ client → of_client client line ≡ Some line
unfolding of_client
own_line client line own = ap (λ (b : Bool). if b then Some line else None) (eq-eqb line.from client own)

other_line : (client : ℕ) (line : Line) → line.from ≢ client → of_client client line ≡ None
unfolding of_client
other_line client line other = ap (λ (b : Bool). if b then Some line else None) (ne_eqb line.from client other)

-- one of a sum is no more than all
one_of_all : (n : ℕ) (f : Colour → ℕ) (c : Colour) → c.0 < n → f c ≤ sum_colours n f
one_of_all zero f c low = absurd (omega (arith, low))
one_of_all (suc n) f c low = elim (cases_eq c.0 n) [
  | inl last ↦ let same = ap f (same_colour c (record { 0 = n }) last) in omega (arith, same)
  | inr before ↦ let rest = one_of_all n f c (omega (arith, low, before)) in omega (arith, rest)
]

module _ {W L : Type 0} where
  if_to : {X : Type 0} (pick : Message W L → Option X) (b : Bool) (message : Message W L) → pick message ≡ None → option_and_then pick (if b then Some message else None) ≡ None
  if_to pick true message none = none
  if_to pick false message none = refl

  -- what is picked of a message that goes elsewhere
  elsewhere : {X : Type 0} (pick : Message W L → Option X) (to c : ℕ) (message : Message W L) → to ≢ c → option_and_then pick (if to == c then Some message else None) ≡ None
  elsewhere pick to c message apart = ap (λ (b : Bool). option_and_then pick (if b then Some message else None)) (ne_eqb to c apart)

  there : {X : Type 0} (pick : Message W L → Option X) (to c : ℕ) (message : Message W L) → to ≡ c → option_and_then pick (if to == c then Some message else None) ≡ pick message
  there pick to c message same = ap (λ (b : Bool). option_and_then pick (if b then Some message else None)) (eq-eqb to c same)

  -- a line is heard from the colour before one's own alone
  hear_other : (sender d c : Colour) (send : Colour × Message W L) → c.0 ≡ d.0 + 1 → sender.0 ≢ d.0 → IsSigned sender send → option_and_then line_heard (if send.0.0 == c.0 then Some send.1 else None) ≡ None
  hear_other sender d c (to, Poll held) next apart signed = if_to line_heard (to.0 == c.0) (Poll held) refl
  hear_other sender d c (to, Accept held) next apart signed = if_to line_heard (to.0 == c.0) (Accept held) refl
  hear_other sender d c (to, Wait client) next apart signed = if_to line_heard (to.0 == c.0) (Wait client) refl
  hear_other sender d c (to, Open link) next apart signed = if_to line_heard (to.0 == c.0) (Open link) refl
  hear_other sender d c (to, Wake) next apart signed = if_to line_heard (to.0 == c.0) Wake refl
  hear_other sender d c (to, Cut) next apart signed = if_to line_heard (to.0 == c.0) Cut refl
  hear_other sender d c (to, Say line) next apart signed = if_to line_heard (to.0 == c.0) (Say line) refl
  hear_other sender d c (to, Hear line) next apart signed = elsewhere line_heard to.0 c.0 (Hear line) (λ same. apart (omega (arith, next, signed, same)))

  hear_own : (sender c : Colour) (send : Colour × Message W L) → c.0 ≡ sender.0 + 1 → IsSigned sender send → option_and_then line_heard (if send.0.0 == c.0 then Some send.1 else None) ≡ line_heard send.1
  hear_own sender c (to, Poll held) next signed = if_to line_heard (to.0 == c.0) (Poll held) refl
  hear_own sender c (to, Accept held) next signed = if_to line_heard (to.0 == c.0) (Accept held) refl
  hear_own sender c (to, Wait client) next signed = if_to line_heard (to.0 == c.0) (Wait client) refl
  hear_own sender c (to, Open link) next signed = if_to line_heard (to.0 == c.0) (Open link) refl
  hear_own sender c (to, Wake) next signed = if_to line_heard (to.0 == c.0) Wake refl
  hear_own sender c (to, Cut) next signed = if_to line_heard (to.0 == c.0) Cut refl
  hear_own sender c (to, Say line) next signed = if_to line_heard (to.0 == c.0) (Say line) refl
  hear_own sender c (to, Hear line) next signed = there line_heard to.0 c.0 (Hear line) (omega (arith, next, signed))

  -- and the room is told a client's lines by that client alone
  say_pick : ℕ → Message W L → Option Line
  say_pick client message = option_and_then (of_client client) (line_told message)

  say_other : (client : ℕ) (sender : Colour) (send : Colour × Message W L) → sender.0 ≢ client + 2 → IsSigned sender send → option_and_then (say_pick client) (if send.0.0 == 1 then Some send.1 else None) ≡ None
  unfolding say_pick
  say_other client sender (to, Poll held) apart signed = if_to (say_pick client) (to.0 == 1) (Poll held) refl
  say_other client sender (to, Accept held) apart signed = if_to (say_pick client) (to.0 == 1) (Accept held) refl
  say_other client sender (to, Wait who) apart signed = if_to (say_pick client) (to.0 == 1) (Wait who) refl
  say_other client sender (to, Open link) apart signed = if_to (say_pick client) (to.0 == 1) (Open link) refl
  say_other client sender (to, Wake) apart signed = if_to (say_pick client) (to.0 == 1) Wake refl
  say_other client sender (to, Cut) apart signed = if_to (say_pick client) (to.0 == 1) Cut refl
  say_other client sender (to, Say line) apart signed = if_to (say_pick client) (to.0 == 1) (Say line) (other_line client line (λ same. let is = signed.1 in apart (omega (arith, is, same))))
  say_other client sender (to, Hear line) apart signed = if_to (say_pick client) (to.0 == 1) (Hear line) refl

  say_own : (client : ℕ) (sender : Colour) (send : Colour × Message W L) → sender.0 ≡ client + 2 → IsSigned sender send → option_and_then (say_pick client) (if send.0.0 == 1 then Some send.1 else None) ≡ line_told send.1
  unfolding say_pick
  say_own client sender (to, Poll held) own signed = if_to (say_pick client) (to.0 == 1) (Poll held) refl
  say_own client sender (to, Accept held) own signed = if_to (say_pick client) (to.0 == 1) (Accept held) refl
  say_own client sender (to, Wait who) own signed = if_to (say_pick client) (to.0 == 1) (Wait who) refl
  say_own client sender (to, Open link) own signed = if_to (say_pick client) (to.0 == 1) (Open link) refl
  say_own client sender (to, Wake) own signed = if_to (say_pick client) (to.0 == 1) Wake refl
  say_own client sender (to, Cut) own signed = if_to (say_pick client) (to.0 == 1) Cut refl
  say_own client sender (to, Say line) own signed = there (say_pick client) to.0 1 (Say line) signed.0 ∙ own_line client line (let is = signed.1 in omega (arith, is, own))
  say_own client sender (to, Hear line) own signed = if_to (say_pick client) (to.0 == 1) (Hear line) refl

  -- of what some sent there is one that opens, so there is among all
  open_sent : (test : Option Colour → Bool) (senders : List (Option Colour)) (messages : List (Message W L)) → has_open (sent_by test senders messages) ≡ true → has_open messages ≡ true
  open_sent test [] messages some = absurd (let no : ⊥ = cc some in no)
  open_sent test (sender ∷ senders) [] some = absurd (let no : ⊥ = cc some in no)
  open_sent test (sender ∷ senders) (message ∷ messages) some = for (test sender) (is_open message) refl some (open_sent test senders messages) where
    for : (b o : Bool) → is_open message ≡ o → has_open (if b then message ∷ sent_by test senders messages else sent_by test senders messages) ≡ true → (has_open (sent_by test senders messages) ≡ true → has_open messages ≡ true) → (if is_open message then true else has_open messages) ≡ true
    for b true is some_ rest = ap (λ x. if x then true else has_open messages) is
    for true false is some_ rest = ap (λ x. if x then true else has_open messages) is ∙ rest (sym (ap (λ x. if x then true else has_open (sent_by test senders messages)) is) ∙ some_)
    for false false is some_ rest = ap (λ x. if x then true else has_open messages) is ∙ rest some_

  -- the first event asks the world, and nothing else is posted
  post_none : {X : Type 0} (pick : Message W L → Option X) (b : Bool) (message : Message W L) → pick message ≡ None → filter_map pick (cons_option (if b then Some message else None) []) ≡ []
  post_none pick true message none = ap (λ o. cons_option o []) none
  post_none pick false message none = refl

  told_so : (l : LinkWords L) (tells : W → WorldContents) (coming : Option (List Coming)) (clients : ℕ) (c : Colour) (messages : List (Message W L)) → AllByRecursion (MayGet l tells coming clients c) messages → AllByRecursion (λ line. (line.from < clients) × FitsLine line.text.items) (told_in messages)
  told_so l tells coming clients c [] all = tt
  told_so l tells coming clients c (Poll held ∷ messages) all = told_so l tells coming clients c messages all.1
  told_so l tells coming clients c (Accept held ∷ messages) all = told_so l tells coming clients c messages all.1
  told_so l tells coming clients c (Wait who ∷ messages) all = told_so l tells coming clients c messages all.1
  told_so l tells coming clients c (Open link ∷ messages) all = told_so l tells coming clients c messages all.1
  told_so l tells coming clients c (Wake ∷ messages) all = told_so l tells coming clients c messages all.1
  told_so l tells coming clients c (Cut ∷ messages) all = told_so l tells coming clients c messages all.1
  told_so l tells coming clients c (Say line ∷ messages) all = ((all.0.1, all.0.2), told_so l tells coming clients c messages all.1)
  told_so l tells coming clients c (Hear line ∷ messages) all = told_so l tells coming clients c messages all.1

module _ {W L : Type 0} (l : LinkWords L) (coming : Option (List Coming)) (clients : ℕ) (c : Colour) (received : List (Message W L)) (sent : List (Colour × Message W L)) where
  is_room : (one : Part W L l) → c.0 ≡ 1 → IsPart l coming clients c received sent one → (value : Room) × IsRoom l coming clients c received sent value
  is_room (part.Desk one) own kept = absurd (let is = kept.own in omega (arith, own, is))
  is_room (part.Room one) own kept = (one, kept)
  is_room (part.Client one) own kept = absurd (let is = kept.own in omega (arith, own, is))

  is_seat : (one : Part W L l) → 2 ≤ c.0 → IsPart l coming clients c received sent one → (value : Client L l) × (one ≡ part.Client value) × IsSeat l coming clients c received sent value
  is_seat (part.Desk one) own kept = absurd (let is = kept.own in omega (arith, own, is))
  is_seat (part.Room one) own kept = absurd (let is = kept.own in omega (arith, own, is))
  is_seat (part.Client one) own kept = (one, refl, kept)

module _ {A W L : Type 0} (l : LinkWords L) (a : ActorWords A (Part W L l) (Message W L)) (tells : W → WorldContents) (coming : Option (List Coming)) (clients : ℕ) (actor : A) (setup : Setup) (posts : List (Colour × Message W L)) (held : Held W) (posted : posts ≡ (record { 0 = 0 }, Poll held) ∷ []) (none : held.accepted ≡ 0)
    (histories : List (List Entry)) (parts : List (Part W L l)) (kept : AreKept a actor setup posts histories parts) (colours : colours_of setup ≡ clients + 2)
    (keeps : (c : Colour) (received : List (Message W L)) (sent : List (Colour × Message W L)) (one : Part W L l) → a.kept actor c received sent one → KeepsPart l coming clients c received sent one)
    (sounds : (c : Colour) (message : Message W L) → a.sound actor c message → MayGet l tells coming clients c message) where
  part_at : (c : Colour) → c.0 < clients + 2 → (one : Part W L l) × (slice_get parts c.0 ≡ Some one) × KeepsPart l coming clients c (kept.received c) (kept.sent c) one
  part_at c low =
      let many = kept.many in
      let found = get_there parts c.0 (omega (arith, low, many, colours)) in
      (found.0, found.1, keeps c (kept.received c) (kept.sent c) found.0 (kept.kept c found.0 found.1))

  signed_at : (c : Colour) → c.0 < colours_of setup → AllByRecursion (IsSigned c) (kept.sent c)
  signed_at c low = (part_at c (omega (arith, low, colours))).2.signed

  posts_none : {X : Type 0} (pick : Message W L → Option X) (c : Colour) → pick (Poll held) ≡ None → filter_map pick (sends_to c posts) ≡ []
  posts_none pick c none = ap (λ p. filter_map pick (sends_to c p)) posted ∙ post_none pick (0 == c.0) (Poll held) none

  -- a colour hears what the one before it sends on
  heard_from : (c d : Colour) → c.0 ≡ d.0 + 1 → c.0 < clients + 2 → heard_in (kept.received c) ≡ heard_by_sends (kept.sent d)
  heard_from c d next low =
      picked_from a actor setup posts histories parts kept line_heard c d (omega (arith, low, colours)) (omega (arith, low, next, colours)) (posts_none line_heard c refl)
      (λ e below apart. picked_twice (λ (send : Colour × Message W L). if send.0.0 == c.0 then Some send.1 else None) line_heard (kept.sent e)
      ∙ none_picked _ (kept.sent e) (all_from (IsSigned e) _ (kept.sent e) (λ send signed. hear_other e d c send next apart signed) (signed_at e below)))
      ∙ picked_twice (λ (send : Colour × Message W L). if send.0.0 == c.0 then Some send.1 else None) line_heard (kept.sent d)
      ∙ picked_same _ _ (kept.sent d) (all_from (IsSigned d) _ (kept.sent d) (λ send signed. hear_own d c send next signed) (signed_at d (omega (arith, low, next, colours))))

  lines : List Line
  lines = told_in (kept.received room)

  room_at : (value : Room) × IsRoom l coming clients room (kept.received room) (kept.sent room) value
  room_at = let found = part_at room (omega arith) in is_room l coming clients room (kept.received room) (kept.sent room) found.0 refl found.2.is

  seat_at : (client : ℕ) → client < clients → (value : Client L l) × (slice_get parts (client_at client).0 ≡ Some (part.Client value)) × IsSeat l coming clients (client_at client) (kept.received (client_at client)) (kept.sent (client_at client)) value
  seat_at client low =
      let c = client_at client in
      let found = part_at c (omega (arith, low)) in
      let is = is_seat l coming clients c (kept.received c) (kept.sent c) found.0 (omega arith) found.2.is in
      (is.0, found.1 ∙ ap Some is.1, is.2)

  all_heard : (client : ℕ) → client < clients → heard_in (kept.received (client_at client)) ≡ lines
  unfolding lines
  all_heard zero low = heard_from (client_at zero) room (omega arith) (omega (arith, low)) ∙ room_at.1.passed
  all_heard (suc client) low =
      heard_from (client_at (suc client)) (client_at client) (omega arith) (omega (arith, low)) ∙ (seat_at client (omega (arith, low))).2.passed (omega (arith, low)) ∙ all_heard client (omega (arith, low))

  all_told : (client : ℕ) → client < clients → said_by client lines ≡ told_by_sends (kept.sent (client_at client))
  unfolding lines say_pick
  all_told client low =
      let d = client_at client in
      filtered client (told_in (kept.received room)) ∙ picked_twice line_told (of_client client) (kept.received room)
      ∙ picked_from a actor setup posts histories parts kept (say_pick client) room d (omega (arith, colours)) (omega (arith, low, colours)) (posts_none (say_pick client) room refl)
      (λ e below apart. picked_twice (λ (send : Colour × Message W L). if send.0.0 == 1 then Some send.1 else None) (say_pick client) (kept.sent e)
      ∙ none_picked _ (kept.sent e) (all_from (IsSigned e) _ (kept.sent e) (λ send signed. say_other client e send apart signed) (signed_at e below)))
      ∙ picked_twice (λ (send : Colour × Message W L). if send.0.0 == 1 then Some send.1 else None) (say_pick client) (kept.sent d)
      ∙ picked_same _ _ (kept.sent d) (all_from (IsSigned d) _ (kept.sent d) (λ send signed. say_own client d send refl signed) (signed_at d (omega (arith, low, colours))))

  lines_so : AllByRecursion (λ line. (line.from < clients) × FitsLine line.text.items) lines
  unfolding lines
  lines_so = told_so l tells coming clients room (kept.received room) (all_from (a.sound actor room) (MayGet l tells coming clients room) (kept.received room) (sounds room) (kept.sound room (omega (arith, colours))))

  own_client : (client : ℕ) (says : List Line) (received : List (Message W L)) (value : Client L l) → IsClient l coming ((client_at client).0 - 2) says received value → IsClient l coming client says received value
  own_client client says received value is = let back : client + 2 - 2 ≡ client = omega arith in subst (λ n. IsClient l coming n says received value) back is

  -- the desk has let all in
  all_let_in : (one : Desk W) → slice_get parts desk.0 ≡ Some (part.Desk one) → one.is_broken ≡ false → (client : ℕ) → client < clients → has_open (kept.received (client_at client)) ≡ true
  all_let_in one at_ well client low =
      let is : IsDesk l coming clients desk (kept.received desk) (kept.sent desk) one = (keeps desk (kept.received desk) (kept.sent desk) (part.Desk one) (kept.kept desk (part.Desk one) at_)).is in
      let arrived = kept.arrived desk (omega (arith, colours)) asks_world in
      let some = one_of_all (colours_of setup) (λ d. count_to desk asks_world (kept.sent d)) desk (omega (arith, colours)) in
      let first : count_to desk asks_world posts ≡ 1 = ap (count_to desk asks_world) posted ∙ one_post in
      let asked = is.asked well in
      let given = is.all well (rested (is_some one.resting) (omega (arith, arrived, some, first, asked))) in
      open_sent (is_sent_by desk) (kept.senders (client_at client)) (kept.received (client_at client)) (ap has_open (kept.in_order (client_at client) desk (omega (arith, low, colours))) ∙ is.opened client (omega (arith, low, given)))
    where
      one_post : count_to {M = Message W L} desk asks_world ((record { 0 = 0 }, Poll held) ∷ []) ≡ 1
      one_post = refl

      rested : (b : Bool) → 1 ≤ one_if b → b ≡ true
      rested true some = refl
      rested false some = absurd (omega (arith, some))

  pub is_chat : (workers : ℕ) → (shape_of setup).cores ≡ workers → (shape_of setup).shards ≡ workers → a.event_of ≡ event_of → IsChat l coming held.world clients workers histories parts
  unfolding lines
  is_chat workers cores shards events = record {
    many = kept.many ∙ colours;
    received = kept.received;
    ran = record {
      setup = setup;
      colours = colours;
      cores = cores;
      shards = shards;
      logs = kept.shards ∙ shards;
      legal = kept.legal;
      drained = kept.drained;
      registered = λ c history low at_. ap (λ e. map e (kept.received c)) (sym events) ∙ kept.registered c history (omega (arith, low, colours)) at_;
    };
    lines = lines;
    told = refl;
    by_clients = all_from (λ (line : Line). (line.from < clients) × FitsLine line.text.items) (λ line. line.from < clients) lines (λ line so. so.0) lines_so;
    fit = all_from (λ (line : Line). (line.from < clients) × FitsLine line.text.items) (λ line. FitsLine line.text.items) lines (λ line so. so.1) lines_so;
    counted = λ one at_. (keeps room (kept.received room) (kept.sent room) (part.Room one) (kept.kept room (part.Room one) at_)).is.counted;
    heard = all_heard;
    clients_are = λ client low.
        let seat = seat_at client low in
        (seat.0, seat.1, subst (λ says. IsClient l coming client says (kept.received (client_at client)) seat.0) (sym (all_told client low)) (own_client client (told_by_sends (kept.sent (client_at client))) (kept.received (client_at client)) seat.0 seat.2.is));
    let_in = all_let_in;
    was = record {
      first = kept.serial.first;
      receipts = kept.serial.all;
      made = subst (λ p. ReceivedByOne (λ c. slice_get kept.serial.first c.0) p kept.serial.all (λ c. slice_get parts c.0)) (posted ∙ ap (λ n. (desk, Poll (record { world = held.world; accepted = n })) ∷ []) none) kept.serial.made;
      received_are = kept.serial.each_received;
      always = λ before later all client value low at_.
          let is : IsSeat l coming clients (client_at client) _ _ value = (keeps (client_at client) _ _ (part.Client value) (kept.serial.kept before later all (client_at client) (part.Client value) at_)).is in
          own_client client _ _ value is.is;
    };
  }
