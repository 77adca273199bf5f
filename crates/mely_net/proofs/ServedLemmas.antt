-- What actors of a service keep is what it has served.
use Rattle.std.proofs.Common.{◌≡◌, ◌≢◌, ◌<◌, ◌≤◌, ◌+◌, ◌-◌, ◌⊎◌, ◌==◌, ℕ, zero, suc, Bool, true, false, List, [], ◌∷◌, ◌++◌, Option, None, Some, if◌then◌else◌, length, map, refl, sym, ◌∙◌, ap, subst, arith, inl, inr, eq-eqb, ne_eqb, length-append}
use Rattle.std.proofs.lemmas.Bool.{cases_eq, cases_lt}
use Rattle.std.proofs.lemmas.List.{append-nil}
use Rattle.std.proofs.lemmas.List.Elements.{filter_map-append}
use Rattle.std.specs.List.{AllByRecursion, cons_option, filter_map}
use Rattle.std.specs.Prelude.{IfSome, option_and_then, slice_get}
use Rattle.mely_event.specs.declared.colour.Colour.{Colour}
use Rattle.mely_history.specs.declared.entry.Entry.{Entry}
use Rattle.mely_history.specs.declared.setup.Setup.{Setup}
use Rattle.mely_history.specs.Setup.{colours_of}
use Rattle.mely_actor.specs.declared.actor.Actor.{Ghosts as ActorWords}
use Rattle.mely_actor.specs.Received.{AreKept, AreLeft}
use Rattle.mely_actor.specs.Sending.{sends_to}
use Rattle.sws_link.specs.Links.{LinkContents}
use Rattle.sws_link.specs.Worlds.{WorldContents}
use Rattle.sws_link.specs.declared.Link.{Ghosts as LinkWords}
use Rattle.mely_net.specs.declared.client.Client.{Client}
use Rattle.mely_net.specs.declared.desk.Desk.{Desk}
use Rattle.mely_net.specs.declared.message.Held.{Held}
use Rattle.mely_net.specs.declared.message.Message.{Message}
use Rattle.mely_net.specs.declared.message.Message.TheVariants.{Poll, Accept, Wait, Open, Wake, Leave, Ask, Reply}
use Rattle.mely_net.specs.declared.part.Part.{Part}
use Rattle.mely_net.specs.declared.part.Part.TheVariants as part
use Rattle.mely_net.specs.Cutting.{AreFrames}
use Rattle.mely_net.specs.Exchanges.{Exchange, IsHistory, exchanges_with}
use Rattle.mely_net.specs.Lines.{IsFramed, Line, exchanges_in, shown_of, shown_to_fault}
use Rattle.mely_net.specs.Messages.{IsSigned, MayGet, at, replies_in, replies_sent, reply_in, request_in, requests_in, requests_sent}
use Rattle.mely_net.specs.Parts.{HasBegun, IsConnection, IsPart, KeepsPart}
use Rattle.mely_net.specs.Rules.{Rules}
use Rattle.mely_net.specs.Several.{SeveralState}
use Rattle.mely_net.specs.Served.{HasHalted, HasServedFrom, IsAnswered}
use Rattle.mely_net.specs.Talks.{IsKnown, IsTold, Request, asked_by, done_by, frame_of, replies_of, requests_of, told_by}
use Rattle.mely_actor.proofs.PickLemmas.{picked_from, picked_mapped, picked_same, picked_twice, all_the_same}

get_there : {X : Type 0} (xs : List X) (n : ℕ) → n < length xs → (x : X) × (slice_get xs n ≡ Some x)
get_there [] n low = absurd (omega (arith, low))
get_there (x ∷ xs) zero low = (x, refl)
get_there (x ∷ xs) (suc n) low = get_there xs n (omega (arith, low))

-- what stands beside a number
abbrev pub with_peer : {X : Type 0} → ℕ → ℕ × X → Option X
with_peer peer one = if one.0 == peer then Some one.1 else None

-- ---- exchanges by their requests and by their replies

module _ {Q P : Type 0} (peer : ℕ) where
  firsts : (exchanges : List (Exchange Q P)) → map (λ one. one.0) (exchanges_with peer exchanges) ≡ filter_map (with_peer peer) (requests_of exchanges)
  firsts [] = refl
  firsts (one ∷ exchanges) = for (one.peer == peer) (firsts exchanges) where
    for : (b : Bool) → map (λ (e : Q × P). e.0) (exchanges_with peer exchanges) ≡ filter_map (with_peer peer) (requests_of exchanges) → map (λ (e : Q × P). e.0) (cons_option (if b then Some (one.request, one.reply) else None) (exchanges_with peer exchanges)) ≡ cons_option (if b then Some one.request else None) (filter_map (with_peer peer) (requests_of exchanges))
    for true rest = ap (λ l. one.request ∷ l) rest
    for false rest = rest

  seconds : (exchanges : List (Exchange Q P)) → map (λ one. one.1) (exchanges_with peer exchanges) ≡ filter_map (with_peer peer) (replies_of exchanges)
  seconds [] = refl
  seconds (one ∷ exchanges) = for (one.peer == peer) (seconds exchanges) where
    for : (b : Bool) → map (λ (e : Q × P). e.1) (exchanges_with peer exchanges) ≡ filter_map (with_peer peer) (replies_of exchanges) → map (λ (e : Q × P). e.1) (cons_option (if b then Some (one.request, one.reply) else None) (exchanges_with peer exchanges)) ≡ cons_option (if b then Some one.reply else None) (filter_map (with_peer peer) (replies_of exchanges))
    for true rest = ap (λ l. one.reply ∷ l) rest
    for false rest = rest

length_mapped : {A B : Type 0} (f : A → B) (xs : List A) → length (map f xs) ≡ length xs
length_mapped f [] = refl
length_mapped f (x ∷ xs) = let rest = length_mapped f xs in omega (arith, rest)

-- as many requests as replies
pub as_many : {Q P : Type 0} (peer : ℕ) (exchanges : List (Exchange Q P)) → length (filter_map (with_peer peer) (requests_of exchanges)) ≡ length (filter_map (with_peer peer) (replies_of exchanges))
as_many {Q} {P} peer exchanges =
    sym (ap length (firsts peer exchanges)) ∙ length_mapped (λ (e : Q × P). e.0) (exchanges_with peer exchanges)
    ∙ sym (length_mapped (λ (e : Q × P). e.1) (exchanges_with peer exchanges)) ∙ ap length (seconds peer exchanges)

pairs_same : {A B : Type 0} (xs ys : List (A × B)) → map (λ x. x.0) xs ≡ map (λ y. y.0) ys → map (λ x. x.1) xs ≡ map (λ y. y.1) ys → xs ≡ ys
pairs_same [] [] one two = refl
pairs_same [] (y ∷ ys) one two = absurd (let never : ⊥ = cc one in never)
pairs_same (x ∷ xs) [] one two = absurd (let never : ⊥ = cc one in never)
pairs_same {A} {B} (x ∷ xs) (y ∷ ys) one two =
    let first : x.0 ≡ y.0 = cc one in
    let second : x.1 ≡ y.1 = cc two in
    let firsts_ : map (λ (e : A × B). e.0) xs ≡ map (λ (e : A × B). e.0) ys = cc one in
    let seconds_ : map (λ (e : A × B). e.1) xs ≡ map (λ (e : A × B). e.1) ys = cc two in
    let rest = pairs_same xs ys firsts_ seconds_ in
    let head : x ≡ y = ap (λ a. (a, x.1)) first ∙ ap (λ b. (y.0, b)) second in
    ap (λ e. e ∷ xs) head ∙ ap (λ l. y ∷ l) rest

-- numbers that are raised
pub raised : {X : Type 0} (up : ℕ → ℕ) → ((n m : ℕ) → up n ≡ up m → n ≡ m) → (peer : ℕ) (xs : List (ℕ × X)) → filter_map (with_peer (up peer)) (map (λ x. (up x.0, x.1)) xs) ≡ filter_map (with_peer peer) xs
raised {X} up apart_up peer xs = picked_mapped (λ (x : ℕ × X). (up x.0, x.1)) (with_peer (up peer)) xs ∙ picked_same (λ (x : ℕ × X). with_peer (up peer) (up x.0, x.1)) (with_peer peer) xs (all_the_same _ (λ x. ap (λ (b : Bool). if b then Some x.1 else None) (same x.0)) xs)
  where
    same : (n : ℕ) → (up n == up peer) ≡ (n == peer)
    same n = elim (cases_eq n peer) [
      | inl is ↦ eq-eqb (up n) (up peer) (ap up is) ∙ sym (eq-eqb n peer is)
      | inr apart ↦ ne_eqb (up n) (up peer) (λ is. apart (apart_up n peer is)) ∙ sym (ne_eqb n peer apart)
    ]

-- ---- messages by whom they name

abbrev ask_pick : {W L Q P : Type 0} → ℕ → Message W L Q P → Option Q
ask_pick client message = option_and_then (with_peer client) (request_in message)

abbrev reply_pick : {W L Q P : Type 0} → ℕ → Message W L Q P → Option P
reply_pick cell message = option_and_then (with_peer cell) (reply_in message)

none_if : {M X : Type 0} (pick : M → Option X) (b : Bool) (message : M) → pick message ≡ None → option_and_then pick (if b then Some message else None) ≡ None
none_if pick true message none = none
none_if pick false message none = refl

some_if : {M X : Type 0} (pick : M → Option X) (b : Bool) (message : M) (x : X) → pick message ≡ Some x → option_and_then pick (if b then Some message else None) ≡ (if b then Some x else None)
some_if pick true message x some = some
some_if pick false message x some = refl

none_picked : {A X : Type 0} (f : A → Option X) (xs : List A) → AllByRecursion (λ x. f x ≡ None) xs → filter_map f xs ≡ []
none_picked f [] none = refl
none_picked f (x ∷ xs) none = ap (λ o. cons_option o (filter_map f xs)) none.0 ∙ none_picked f xs none.1

all_from : {A : Type 0} (P R : A → Type 0) (xs : List A) → ((x : A) → P x → R x) → AllByRecursion P xs → AllByRecursion R xs
all_from P R [] so all = tt
all_from P R (x ∷ xs) so all = (so x all.0, all_from P R xs so all.1)

picks : {X : Type 0} (x : X) (n m : ℕ) → n ≡ m → (if n == m then Some x else None) ≡ Some x
picks x n m same = ap (λ (b : Bool). if b then Some x else None) (eq-eqb n m same)

picks_none : {X : Type 0} (x : X) (n m : ℕ) → n ≢ m → (if n == m then Some x else None) ≡ None
picks_none x n m apart = ap (λ (b : Bool). if b then Some x else None) (ne_eqb n m apart)

module _ {W L Q P : Type 0} (cells : ℕ) where
  -- who asks signs with its own number, and nobody else with that
  ask_own : (client : ℕ) (sender c : Colour) (send : Colour × Message W L Q P) → sender.0 ≡ client + cells + 1 → IsSigned cells sender send.1
      → option_and_then (ask_pick client) (if send.0.0 == c.0 then Some send.1 else None) ≡ option_and_then (with_peer c.0) (at send.0.0 (request_in send.1))
  ask_own client sender c (to, Poll held) is signed = none_if (ask_pick client) (to.0 == c.0) (Poll held) refl
  ask_own client sender c (to, Accept held) is signed = none_if (ask_pick client) (to.0 == c.0) (Accept held) refl
  ask_own client sender c (to, Wait who) is signed = none_if (ask_pick client) (to.0 == c.0) (Wait who) refl
  ask_own client sender c (to, Open link) is signed = none_if (ask_pick client) (to.0 == c.0) (Open link) refl
  ask_own client sender c (to, Wake) is signed = none_if (ask_pick client) (to.0 == c.0) Wake refl
  ask_own client sender c (to, Leave) is signed = none_if (ask_pick client) (to.0 == c.0) Leave refl
  ask_own client sender c (to, Ask who request) is signed = some_if (ask_pick client) (to.0 == c.0) (Ask who request) request (picks request who client (omega (arith, is, signed)))
  ask_own client sender c (to, Reply cell reply) is signed = none_if (ask_pick client) (to.0 == c.0) (Reply cell reply) refl

  ask_other : (client : ℕ) (sender c : Colour) (send : Colour × Message W L Q P) → sender.0 ≢ client + cells + 1 → IsSigned cells sender send.1 → option_and_then (ask_pick client) (if send.0.0 == c.0 then Some send.1 else None) ≡ None
  ask_other client sender c (to, Poll held) apart signed = none_if (ask_pick client) (to.0 == c.0) (Poll held) refl
  ask_other client sender c (to, Accept held) apart signed = none_if (ask_pick client) (to.0 == c.0) (Accept held) refl
  ask_other client sender c (to, Wait who) apart signed = none_if (ask_pick client) (to.0 == c.0) (Wait who) refl
  ask_other client sender c (to, Open link) apart signed = none_if (ask_pick client) (to.0 == c.0) (Open link) refl
  ask_other client sender c (to, Wake) apart signed = none_if (ask_pick client) (to.0 == c.0) Wake refl
  ask_other client sender c (to, Leave) apart signed = none_if (ask_pick client) (to.0 == c.0) Leave refl
  ask_other client sender c (to, Ask who request) apart signed = none_if (ask_pick client) (to.0 == c.0) (Ask who request) (picks_none request who client (λ same. apart (omega (arith, same, signed))))
  ask_other client sender c (to, Reply cell reply) apart signed = none_if (ask_pick client) (to.0 == c.0) (Reply cell reply) refl

  -- and so does who replies
  reply_own : (cell : ℕ) (sender c : Colour) (send : Colour × Message W L Q P) → sender.0 ≡ cell + 1 → IsSigned cells sender send.1
      → option_and_then (reply_pick cell) (if send.0.0 == c.0 then Some send.1 else None) ≡ option_and_then (with_peer c.0) (at send.0.0 (reply_in send.1))
  reply_own cell sender c (to, Poll held) is signed = none_if (reply_pick cell) (to.0 == c.0) (Poll held) refl
  reply_own cell sender c (to, Accept held) is signed = none_if (reply_pick cell) (to.0 == c.0) (Accept held) refl
  reply_own cell sender c (to, Wait who) is signed = none_if (reply_pick cell) (to.0 == c.0) (Wait who) refl
  reply_own cell sender c (to, Open link) is signed = none_if (reply_pick cell) (to.0 == c.0) (Open link) refl
  reply_own cell sender c (to, Wake) is signed = none_if (reply_pick cell) (to.0 == c.0) Wake refl
  reply_own cell sender c (to, Leave) is signed = none_if (reply_pick cell) (to.0 == c.0) Leave refl
  reply_own cell sender c (to, Ask who request) is signed = none_if (reply_pick cell) (to.0 == c.0) (Ask who request) refl
  reply_own cell sender c (to, Reply of reply) is signed = some_if (reply_pick cell) (to.0 == c.0) (Reply of reply) reply (picks reply of cell (omega (arith, is, signed)))

  reply_other : (cell : ℕ) (sender c : Colour) (send : Colour × Message W L Q P) → sender.0 ≢ cell + 1 → IsSigned cells sender send.1 → option_and_then (reply_pick cell) (if send.0.0 == c.0 then Some send.1 else None) ≡ None
  reply_other cell sender c (to, Poll held) apart signed = none_if (reply_pick cell) (to.0 == c.0) (Poll held) refl
  reply_other cell sender c (to, Accept held) apart signed = none_if (reply_pick cell) (to.0 == c.0) (Accept held) refl
  reply_other cell sender c (to, Wait who) apart signed = none_if (reply_pick cell) (to.0 == c.0) (Wait who) refl
  reply_other cell sender c (to, Open link) apart signed = none_if (reply_pick cell) (to.0 == c.0) (Open link) refl
  reply_other cell sender c (to, Wake) apart signed = none_if (reply_pick cell) (to.0 == c.0) Wake refl
  reply_other cell sender c (to, Leave) apart signed = none_if (reply_pick cell) (to.0 == c.0) Leave refl
  reply_other cell sender c (to, Ask who request) apart signed = none_if (reply_pick cell) (to.0 == c.0) (Ask who request) refl
  reply_other cell sender c (to, Reply of reply) apart signed = none_if (reply_pick cell) (to.0 == c.0) (Reply of reply) (picks_none reply of cell (λ same. apart (omega (arith, same, signed))))

  asks_known : (tells : W → WorldContents) (link_tells : L → Option LinkContents) (is_shut : L → Bool) (clients : ℕ) (c : Colour) (messages : List (Message W L Q P)) → AllByRecursion (MayGet tells link_tells is_shut cells clients c) messages → AllByRecursion (λ ask. ask.0 < clients) (requests_in messages)
  asks_known tells link_tells is_shut clients c [] all = tt
  asks_known tells link_tells is_shut clients c (Poll held ∷ messages) all = asks_known tells link_tells is_shut clients c messages all.1
  asks_known tells link_tells is_shut clients c (Accept held ∷ messages) all = asks_known tells link_tells is_shut clients c messages all.1
  asks_known tells link_tells is_shut clients c (Wait who ∷ messages) all = asks_known tells link_tells is_shut clients c messages all.1
  asks_known tells link_tells is_shut clients c (Open link ∷ messages) all = asks_known tells link_tells is_shut clients c messages all.1
  asks_known tells link_tells is_shut clients c (Wake ∷ messages) all = asks_known tells link_tells is_shut clients c messages all.1
  asks_known tells link_tells is_shut clients c (Leave ∷ messages) all = asks_known tells link_tells is_shut clients c messages all.1
  asks_known tells link_tells is_shut clients c (Ask who request ∷ messages) all = (all.0.2, asks_known tells link_tells is_shut clients c messages all.1)
  asks_known tells link_tells is_shut clients c (Reply of reply ∷ messages) all = asks_known tells link_tells is_shut clients c messages all.1

  replies_known : (tells : W → WorldContents) (link_tells : L → Option LinkContents) (is_shut : L → Bool) (clients : ℕ) (c : Colour) (messages : List (Message W L Q P)) → AllByRecursion (MayGet tells link_tells is_shut cells clients c) messages → AllByRecursion (λ reply. reply.0 < cells) (replies_in messages)
  replies_known tells link_tells is_shut clients c [] all = tt
  replies_known tells link_tells is_shut clients c (Poll held ∷ messages) all = replies_known tells link_tells is_shut clients c messages all.1
  replies_known tells link_tells is_shut clients c (Accept held ∷ messages) all = replies_known tells link_tells is_shut clients c messages all.1
  replies_known tells link_tells is_shut clients c (Wait who ∷ messages) all = replies_known tells link_tells is_shut clients c messages all.1
  replies_known tells link_tells is_shut clients c (Open link ∷ messages) all = replies_known tells link_tells is_shut clients c messages all.1
  replies_known tells link_tells is_shut clients c (Wake ∷ messages) all = replies_known tells link_tells is_shut clients c messages all.1
  replies_known tells link_tells is_shut clients c (Leave ∷ messages) all = replies_known tells link_tells is_shut clients c messages all.1
  replies_known tells link_tells is_shut clients c (Ask who request ∷ messages) all = replies_known tells link_tells is_shut clients c messages all.1
  replies_known tells link_tells is_shut clients c (Reply of reply ∷ messages) all = (all.0.1, replies_known tells link_tells is_shut clients c messages all.1)

all_behind : {A : Type 0} (P : A → Type 0) (xs ys : List A) → AllByRecursion P (xs ++ ys) → AllByRecursion P ys
all_behind P [] ys all = all
all_behind P (x ∷ xs) ys all = all_behind P xs ys all.1

all_before : {A : Type 0} (P : A → Type 0) (xs ys : List A) → AllByRecursion P (xs ++ ys) → AllByRecursion P xs
all_before P [] ys all = tt
all_before P (x ∷ xs) ys all = (all.0, all_before P xs ys all.1)

all_mapped : {A B : Type 0} (f : A → B) (P : B → Type 0) (xs : List A) → AllByRecursion P (map f xs) → AllByRecursion (λ x. P (f x)) xs
all_mapped f P [] all = tt
all_mapped f P (x ∷ xs) all = (all.0, all_mapped f P xs all.1)

-- ---- nothing is under way, and nothing went astray

one_of : {X : Type 0} (n m : ℕ) (x : X) → n ≡ m → (xs : List X) → length (cons_option (if n == m then Some x else None) xs) ≡ length xs + 1
one_of {X} n m x same xs = ap (λ (o : Option X). length (cons_option o xs)) (picks x n m same) ∙ (let more : length (x ∷ xs) ≡ length xs + 1 = omega arith in more)

none_of : {X : Type 0} (n m : ℕ) (x : X) → n ≢ m → (xs : List X) → length (cons_option (if n == m then Some x else None) xs) ≡ length xs
none_of {X} n m x apart xs = ap (λ (o : Option X). length (cons_option o xs)) (picks_none x n m apart)

nothing_left : {Q P : Type 0} (cells : ℕ) (astray : List (ℕ × P)) (under_way : Option (Request Q P)) (asked : Option ℕ) (several : Option (SeveralState Q P)) → IsKnown astray under_way asked several → AllByRecursion (λ reply. reply.0 < cells) astray → AllByRecursion (λ ask. ask.0 < cells) (asked_by under_way)
    → ((cell : ℕ) → cell < cells → length (filter_map (with_peer cell) (asked_by under_way)) ≡ length (filter_map (with_peer cell) astray)) → (astray ≡ []) × (under_way ≡ None)
nothing_left cells [] None asked several known replies asks same = (refl, refl)
nothing_left cells [] (Some one) asked several known replies asks same =
    absurd (let many = same one.cell asks.0 in let here = one_of one.cell one.cell one.request refl [] in omega (arith, many, here))
nothing_left cells (reply ∷ astray) None asked several known replies asks same =
    absurd (let many = same reply.0 replies.0 in let here = one_of reply.0 reply.0 reply.1 refl (filter_map (with_peer reply.0) astray) in omega (arith, many, here))
nothing_left cells (reply ∷ astray) (Some one) asked several known replies asks same =
    absurd (let many = same reply.0 replies.0 in let here = one_of reply.0 reply.0 reply.1 refl (filter_map (with_peer reply.0) astray) in let none = none_of one.cell reply.0 one.request known.1 [] in omega (arith, many, here, none))

post_none : {M X : Type 0} (pick : M → Option X) (b : Bool) (message : M) → pick message ≡ None → filter_map pick (cons_option (if b then Some message else None) []) ≡ []
post_none pick true message none = ap (λ o. cons_option o []) none
post_none pick false message none = refl

module _ {Q P C W L : Type 0} (rules : Rules Q P C) (l : LinkWords L) (Begins : ℕ → C → Type 0) (c : Colour) (received : List (Message W L Q P)) (sent : List (Colour × Message W L Q P)) where
  is_desk : (kept : Part C W L Q P l) → c.0 ≡ 0 → IsPart rules l Begins c received sent kept → (desk : Desk W) × (kept ≡ part.Desk desk)
  is_desk (part.Desk desk) none is = (desk, refl)
  is_desk (part.Cell value) none is = absurd (let behind = is.is.behind in omega (arith, none, behind))
  is_desk (part.Client client) none is = absurd (let behind = is.behind in omega (arith, none, behind))

  pub is_cell : (kept : Part C W L Q P l) → 0 < c.0 → c.0 ≤ rules.cells → IsPart rules l Begins c received sent kept → (value : C) × (kept ≡ part.Cell value) × HasBegun rules l Begins c received sent value
  is_cell (part.Desk desk) some few is = absurd (omega (arith, some, is))
  is_cell (part.Cell value) some few is = (value, refl, is)
  is_cell (part.Client client) some few is = absurd (let behind = is.behind in omega (arith, few, behind))

  is_client : (kept : Part C W L Q P l) → rules.cells < c.0 → IsPart rules l Begins c received sent kept → (client : Client L Q P l) × (kept ≡ part.Client client) × IsConnection rules l c received sent client
  is_client (part.Desk desk) many is = absurd (omega (arith, many, is))
  is_client (part.Cell value) many is = absurd (let there = is.is.there in omega (arith, many, there))
  is_client (part.Client client) many is = (client, refl, is)

module _ {A Q P C W L : Type 0} (rules : Rules Q P C) (l : LinkWords L) (Begins : ℕ → C → Type 0) (a : ActorWords A (Part C W L Q P l) (Message W L Q P)) (tells : W → WorldContents) (clients : ℕ) (actor : A) (setup : Setup) (posts : List (Colour × Message W L Q P)) (held : Held W) (posted : posts ≡ (record { 0 = 0 }, Poll held) ∷ []) (histories : List (List Entry)) (parts : List (Part C W L Q P l))
    (kept : AreKept a actor setup posts histories parts) (colours : colours_of setup ≡ rules.cells + clients + 1)
    (keeps : (c : Colour) (received : List (Message W L Q P)) (sent : List (Colour × Message W L Q P)) (part : Part C W L Q P l) → a.kept actor c received sent part → KeepsPart rules l Begins c received sent part)
    (sounds : (c : Colour) (message : Message W L Q P) → a.sound actor c message → MayGet tells l.tells l.is_shut rules.cells clients c message) where
  sound_at : (c : Colour) → c.0 < rules.cells + clients + 1 → AllByRecursion (MayGet tells l.tells l.is_shut rules.cells clients c) (kept.received c)
  sound_at c low = all_from (a.sound actor c) (MayGet tells l.tells l.is_shut rules.cells clients c) (kept.received c) (sounds c) (kept.sound c (omega (arith, low, colours)))

  part_at : (c : Colour) → c.0 < rules.cells + clients + 1 → (one : Part C W L Q P l) × (slice_get parts c.0 ≡ Some one) × KeepsPart rules l Begins c (kept.received c) (kept.sent c) one
  part_at c low =
      let many = kept.many in
      let there = get_there parts c.0 (omega (arith, low, many, colours)) in
      (there.0, there.1, keeps c (kept.received c) (kept.sent c) there.0 (kept.kept c there.0 there.1))

  signed_at : (c : Colour) → c.0 < rules.cells + clients + 1 → AllByRecursion (λ send. IsSigned rules.cells c send.1) (kept.sent c)
  signed_at c low = (part_at c low).2.signed

  cell_at : (cell : ℕ) → cell < rules.cells → (value : C) × (slice_get parts (cell + 1) ≡ Some (part.Cell value)) × HasBegun rules l Begins (record { 0 = cell + 1 }) (kept.received (record { 0 = cell + 1 })) (kept.sent (record { 0 = cell + 1 })) value
  cell_at cell low =
      let c : Colour = record { 0 = cell + 1 } in
      let at_ = part_at c (omega (arith, low)) in
      let is = is_cell rules l Begins c (kept.received c) (kept.sent c) at_.0 (omega arith) (omega (arith, low)) at_.2.is in
      (is.0, at_.1 ∙ ap Some is.1, is.2)

  client_at : (client : ℕ) → client < clients → (value : Client L Q P l) × (slice_get parts (client + rules.cells + 1) ≡ Some (part.Client value)) × IsConnection rules l (record { 0 = client + rules.cells + 1 }) (kept.received (record { 0 = client + rules.cells + 1 })) (kept.sent (record { 0 = client + rules.cells + 1 })) value
  client_at client low =
      let c : Colour = record { 0 = client + rules.cells + 1 } in
      let at_ = part_at c (omega (arith, low)) in
      let is = is_client rules l Begins c (kept.received c) (kept.sent c) at_.0 (omega arith) at_.2.is in
      (is.0, at_.1 ∙ ap Some is.1, is.2)

  module _ (client cell : ℕ) (low : client < clients) (few : cell < rules.cells) where
    -- what the cell was asked by the connection is what that asked it
    asks_met : filter_map (with_peer client) (requests_in (kept.received (record { 0 = cell + 1 }))) ≡ filter_map (with_peer (cell + 1)) (requests_sent (kept.sent (record { 0 = client + rules.cells + 1 })))
    asks_met =
        let c : Colour = record { 0 = cell + 1 } in
        let d : Colour = record { 0 = client + rules.cells + 1 } in
        picked_twice request_in (with_peer client) (kept.received c)
        ∙ picked_from a actor setup posts histories parts kept (ask_pick client) c d (omega (arith, few, colours)) (omega (arith, low, colours)) (ap (λ p. filter_map (ask_pick client) (sends_to c p)) posted ∙ post_none (ask_pick client) (0 == c.0) (Poll held) refl)
        (λ e below apart. picked_twice (λ (send : Colour × Message W L Q P). if send.0.0 == c.0 then Some send.1 else None) (ask_pick client) (kept.sent e)
        ∙ none_picked _ (kept.sent e) (all_from (λ (send : Colour × Message W L Q P). IsSigned rules.cells e send.1) _ (kept.sent e) (λ send signed. ask_other rules.cells client e c send apart signed) (signed_at e (omega (arith, below, colours)))))
        ∙ picked_twice (λ (send : Colour × Message W L Q P). if send.0.0 == c.0 then Some send.1 else None) (ask_pick client) (kept.sent d)
        ∙ picked_same _ _ (kept.sent d) (all_from (λ (send : Colour × Message W L Q P). IsSigned rules.cells d send.1) _ (kept.sent d) (λ send signed. ask_own rules.cells client d c send refl signed) (signed_at d (omega (arith, low))))
        ∙ sym (picked_twice (λ (send : Colour × Message W L Q P). at send.0.0 (request_in send.1)) (with_peer (cell + 1)) (kept.sent d))

    -- and what the connection was replied by the cell is what that replied it
    replies_met : filter_map (with_peer cell) (replies_in (kept.received (record { 0 = client + rules.cells + 1 }))) ≡ filter_map (with_peer (client + rules.cells + 1)) (replies_sent (kept.sent (record { 0 = cell + 1 })))
    replies_met =
        let c : Colour = record { 0 = client + rules.cells + 1 } in
        let d : Colour = record { 0 = cell + 1 } in
        picked_twice reply_in (with_peer cell) (kept.received c)
        ∙ picked_from a actor setup posts histories parts kept (reply_pick cell) c d (omega (arith, low, colours)) (omega (arith, few, colours)) (ap (λ p. filter_map (reply_pick cell) (sends_to c p)) posted ∙ post_none (reply_pick cell) (0 == c.0) (Poll held) refl)
        (λ e below apart. picked_twice (λ (send : Colour × Message W L Q P). if send.0.0 == c.0 then Some send.1 else None) (reply_pick cell) (kept.sent e)
        ∙ none_picked _ (kept.sent e) (all_from (λ (send : Colour × Message W L Q P). IsSigned rules.cells e send.1) _ (kept.sent e) (λ send signed. reply_other rules.cells cell e c send apart signed) (signed_at e (omega (arith, below, colours)))))
        ∙ picked_twice (λ (send : Colour × Message W L Q P). if send.0.0 == c.0 then Some send.1 else None) (reply_pick cell) (kept.sent d)
        ∙ picked_same _ _ (kept.sent d) (all_from (λ (send : Colour × Message W L Q P). IsSigned rules.cells d send.1) _ (kept.sent d) (λ send signed. reply_own rules.cells cell d c send refl signed) (signed_at d (omega (arith, few))))
        ∙ sym (picked_twice (λ (send : Colour × Message W L Q P). at send.0.0 (reply_in send.1)) (with_peer (client + rules.cells + 1)) (kept.sent d))

    asks_same : filter_map (with_peer client) (requests_of (cell_at cell few).2.is.history) ≡ filter_map (with_peer cell) (client_at client low).2.asks
    asks_same =
        ap (filter_map (with_peer client)) (sym (cell_at cell few).2.is.asked) ∙ asks_met ∙ ap (filter_map (with_peer (cell + 1))) (client_at client low).2.asked
        ∙ raised (λ n. n + 1) (λ n m is. omega (arith, is)) cell (client_at client low).2.asks

    replies_same : filter_map (with_peer cell) (replies_in (kept.received (record { 0 = client + rules.cells + 1 }))) ≡ filter_map (with_peer client) (replies_of (cell_at cell few).2.is.history)
    replies_same =
        replies_met ∙ ap (filter_map (with_peer (client + rules.cells + 1))) (cell_at cell few).2.is.replied
        ∙ raised (λ n. n + rules.cells + 1) (λ n m is. omega (arith, is)) client (replies_of (cell_at cell few).2.is.history)

    -- as many requests under way as replies that went astray
    left_same : length (filter_map (with_peer cell) (asked_by (client_at client low).2.talk.under_way)) ≡ length (filter_map (with_peer cell) (client_at client low).2.talk.astray)
    left_same =
        let talk = (client_at client low).2.talk in
        let exchanges = exchanges_in talk.lines ++ done_by talk.under_way in
        let asked = ap (λ l. length (filter_map (with_peer cell) l)) talk.spoken.asked ∙ ap length (filter_map-append (with_peer cell) (requests_of exchanges) (asked_by talk.under_way)) ∙ length-append (filter_map (with_peer cell) (requests_of exchanges)) (filter_map (with_peer cell) (asked_by talk.under_way)) in
        let replied = ap (λ l. length (filter_map (with_peer cell) l)) talk.spoken.replied ∙ ap length (filter_map-append (with_peer cell) (replies_of exchanges) talk.astray) ∙ length-append (filter_map (with_peer cell) (replies_of exchanges)) (filter_map (with_peer cell) talk.astray) in
        let here = as_many cell exchanges in
        let there = as_many client (cell_at cell few).2.is.history in
        let asks = ap length asks_same in
        let replies = ap length replies_same in
        omega (arith, asked, replied, here, there, asks, replies)

  module _ (client : ℕ) (low : client < clients) where
    -- so there are none
    settled : ((client_at client low).2.talk.astray ≡ []) × ((client_at client low).2.talk.under_way ≡ None)
    settled =
        let c : Colour = record { 0 = client + rules.cells + 1 } in
        let conn = (client_at client low).2 in
        let talk = conn.talk in
        nothing_left rules.cells talk.astray talk.under_way (client_at client low).0.asked (client_at client low).0.several talk.kept.known
        (all_behind (λ (reply : ℕ × P). reply.0 < rules.cells) (replies_of (exchanges_in talk.lines ++ done_by talk.under_way)) talk.astray (subst (AllByRecursion (λ (reply : ℕ × P). reply.0 < rules.cells)) talk.spoken.replied (replies_known rules.cells tells l.tells l.is_shut clients c (kept.received c) (sound_at c (omega (arith, low))))))
        (all_behind (λ (ask : ℕ × Q). ask.0 < rules.cells) (requests_of (exchanges_in talk.lines ++ done_by talk.under_way)) (asked_by talk.under_way) (subst (AllByRecursion (λ (ask : ℕ × Q). ask.0 < rules.cells)) talk.spoken.asked conn.there))
        (λ cell few. left_same client cell low few)

    all_asked : (client_at client low).2.asks ≡ requests_of (exchanges_in (client_at client low).2.talk.lines)
    all_asked =
        let talk = (client_at client low).2.talk in
        talk.spoken.asked ∙ ap (λ u. requests_of (exchanges_in talk.lines ++ done_by u) ++ asked_by u) settled.1 ∙ append-nil (requests_of (exchanges_in talk.lines ++ [])) ∙ ap requests_of (append-nil (exchanges_in talk.lines))

    all_replied : replies_in (kept.received (record { 0 = client + rules.cells + 1 })) ≡ replies_of (exchanges_in (client_at client low).2.talk.lines)
    all_replied =
        let talk = (client_at client low).2.talk in
        talk.spoken.replied ∙ ap (λ r. replies_of (exchanges_in talk.lines ++ done_by talk.under_way) ++ r) settled.0 ∙ append-nil (replies_of (exchanges_in talk.lines ++ done_by talk.under_way)) ∙ ap (λ u. replies_of (exchanges_in talk.lines ++ done_by u)) settled.1 ∙ ap replies_of (append-nil (exchanges_in talk.lines))

    same_exchanges : (cell : ℕ) (few : cell < rules.cells) → exchanges_with cell (exchanges_in (client_at client low).2.talk.lines) ≡ exchanges_with client (cell_at cell few).2.is.history
    same_exchanges cell few =
        let exchanges = exchanges_in (client_at client low).2.talk.lines in
        let history = (cell_at cell few).2.is.history in
        pairs_same (exchanges_with cell exchanges) (exchanges_with client history)
        (firsts cell exchanges ∙ ap (filter_map (with_peer cell)) (sym all_asked) ∙ sym (asks_same client cell low few) ∙ sym (firsts client history))
        (seconds cell exchanges ∙ ap (filter_map (with_peer cell)) (sym all_replied) ∙ replies_same client cell low few ∙ sym (seconds client history))

    framed : (told : LinkContents) → told_by l.tells (client_at client low).0.link ≡ Some told → IsFramed rules told (client_at client low).2.talk.lines (client_at client low).0.outbox (client_at client low).0.end
    framed told is =
        let talk = (client_at client low).2.talk in
        let so = subst (λ t. IfSome t (IsTold rules (map (λ line. line.frame) talk.lines ++ frame_of talk.under_way) talk.rest (shown_of rules talk.lines ++ shown_to_fault rules talk.refused) talk.unwritten)) is talk.carried.told in
        let frames_are = ap (λ u. map (λ (line : Line Q P). line.frame) talk.lines ++ frame_of u) settled.1 ∙ append-nil (map (λ (line : Line Q P). line.frame) talk.lines) in
        record {
          rest = talk.rest;
          frames = subst (λ f. AreFrames rules.cut rules.longest told.taken f talk.rest) frames_are so.framed;
          refused = talk.refused;
          refused_is = talk.carried.is_refused;
          unwritten = talk.unwritten;
          written = so.written;
          on_its_way = talk.carried.outbox_is;
          all = talk.carried.all;
          nothing_left = λ e. subst (λ t. IfSome t (λ (one : LinkContents). one.left ≡ [])) is (talk.carried.nothing_left e);
          over = λ e. talk.kept.over (talk.kept.done e);
        }

    is_answered : IsAnswered rules l (client_at client low).0 (client_at client low).2.talk.lines
    is_answered =
        let talk = (client_at client low).2.talk in
        record {
          lines_are = talk.spoken.lines_are;
          end_at_last = talk.spoken.end_at_last;
          in_turn = λ stray. talk.kept.strays stray settled.0;
          framed = framed;
        }

    asked_of_all : AllByRecursion (λ one. one.peer < rules.cells) (exchanges_in (client_at client low).2.talk.lines)
    asked_of_all = all_mapped (λ (one : Exchange Q P). (one.peer, one.request)) (λ (ask : ℕ × Q). ask.0 < rules.cells) (exchanges_in (client_at client low).2.talk.lines) (subst (AllByRecursion (λ (ask : ℕ × Q). ask.0 < rules.cells)) all_asked (client_at client low).2.there)

  asked_by_all : (cell : ℕ) (few : cell < rules.cells) → AllByRecursion (λ one. one.peer < clients) (cell_at cell few).2.is.history
  asked_by_all cell few =
      let c : Colour = record { 0 = cell + 1 } in
      all_mapped (λ (one : Exchange Q P). (one.peer, one.request)) (λ (ask : ℕ × Q). ask.0 < clients) (cell_at cell few).2.is.history (subst (AllByRecursion (λ (ask : ℕ × Q). ask.0 < clients)) (cell_at cell few).2.is.asked (asks_known rules.cells tells l.tells l.is_shut clients c (kept.received c) (sound_at c (omega (arith, few)))))

  -- the history of each cell, and the lines of each connection
  history_at : (cell : ℕ) → (history : List (Exchange Q P)) × (cell < rules.cells → (few : cell < rules.cells) × (history ≡ (cell_at cell few).2.is.history))
  history_at cell = for (cases_lt cell rules.cells) where
    for : (cell < rules.cells) ⊎ (rules.cells ≤ cell) → (history : List (Exchange Q P)) × (cell < rules.cells → (few : cell < rules.cells) × (history ≡ (cell_at cell few).2.is.history))
    for (inl few) = ((cell_at cell few).2.is.history, λ _. (few, refl))
    for (inr many) = ([], λ few. absurd (omega (arith, few, many)))

  lines_at : (client : ℕ) → (lines : List (Line Q P)) × (client < clients → (low : client < clients) × (lines ≡ (client_at client low).2.talk.lines))
  lines_at client = for (cases_lt client clients) where
    for : (client < clients) ⊎ (clients ≤ client) → (lines : List (Line Q P)) × (client < clients → (low : client < clients) × (lines ≡ (client_at client low).2.talk.lines))
    for (inl low) = ((client_at client low).2.talk.lines, λ _. (low, refl))
    for (inr many) = ([], λ low. absurd (omega (arith, low, many)))

  desk_at : (desk : Desk W) × (slice_get parts 0 ≡ Some (part.Desk desk))
  desk_at =
      let c : Colour = record { 0 = 0 } in
      let at_ = part_at c (omega arith) in
      let is = is_desk rules l Begins c (kept.received c) (kept.sent c) at_.0 refl at_.2.is in
      (is.0, at_.1 ∙ ap Some is.1)

  pub has_served : HasServedFrom rules l Begins clients parts
  has_served = record {
    many = kept.many ∙ colours;
    desk = desk_at.0;
    asking = desk_at.1;
    histories = λ cell. (history_at cell).0;
    sequential = λ cell few.
        let h = (history_at cell).1 few in
        let is = cell_at cell h.0 in
        let same : cell + 1 - 1 ≡ cell = omega arith in
        (is.0, is.1, subst (λ history. IsHistory rules cell (Begins cell) history is.0) (sym h.1) (subst (λ n. IsHistory rules n (Begins n) is.2.is.history is.0) same (record { first = is.2.first; begins = is.2.begins; steps = is.2.is.steps })));
    asked_by = λ cell few. let h = (history_at cell).1 few in subst (AllByRecursion (λ (one : Exchange Q P). one.peer < clients)) (sym h.1) (asked_by_all cell h.0);
    lines = λ client. (lines_at client).0;
    answered = λ client low.
        let h = (lines_at client).1 low in
        let is = client_at client h.0 in
        (is.0, is.1, subst (IsAnswered rules l is.0) (sym h.1) (is_answered client h.0));
    asked_of = λ client low. let h = (lines_at client).1 low in subst (λ lines. AllByRecursion (λ (one : Exchange Q P). one.peer < rules.cells) (exchanges_in lines)) (sym h.1) (asked_of_all client h.0);
    same = λ client cell low few.
        let h = (lines_at client).1 low in
        let k = (history_at cell).1 few in
        ap (λ lines. exchanges_with cell (exchanges_in lines)) h.1 ∙ same_exchanges client h.0 cell k.0 ∙ sym (ap (exchanges_with client) k.1);
  }

-- the same where cells may begin with more
module _ {Q P C W L : Type 0} (rules : Rules Q P C) (l : LinkWords L) (Begins Others : ℕ → C → Type 0) (more : (cell : ℕ) (value : C) → Begins cell value → Others cell value) where
  pub served_from : (clients : ℕ) (parts : List (Part C W L Q P l)) → HasServedFrom rules l Begins clients parts → HasServedFrom rules l Others clients parts
  served_from clients parts served = record {
    many = served.many;
    desk = served.desk;
    asking = served.asking;
    histories = served.histories;
    sequential = λ cell few. let is = served.sequential cell few in (is.0, is.1, record { first = is.2.first; begins = more cell is.2.first is.2.begins; steps = is.2.steps });
    asked_by = served.asked_by;
    lines = served.lines;
    answered = served.answered;
    asked_of = served.asked_of;
    same = served.same;
  }

-- what is left of a run that halted
module _ {A Q P C W L : Type 0} (rules : Rules Q P C) (l : LinkWords L) (Begins : ℕ → C → Type 0) (a : ActorWords A (Part C W L Q P l) (Message W L Q P)) (clients colours : ℕ) (actor : A) (parts : List (Option (Part C W L Q P l)))
    (many : colours ≡ rules.cells + clients + 1)
    (keeps : (c : Colour) (received : List (Message W L Q P)) (sent : List (Colour × Message W L Q P)) (part : Part C W L Q P l) → a.kept actor c received sent part → KeepsPart rules l Begins c received sent part) where
  pub has_halted : AreLeft a actor colours parts → HasHalted rules l Begins clients parts
  has_halted left = record {
    many = elim left.many [
      | inl none ↦ inl none
      | inr all ↦ inr (all ∙ many)
    ];
    sequential = λ cell one few at.
        let c : Colour = record { 0 = cell + 1 } in
        let kept = left.each (cell + 1) one at in
        let is = is_cell rules l Begins c kept.received kept.sent one (omega arith) (omega (arith, few)) (keeps c kept.received kept.sent one kept.kept).is in
        let same : cell + 1 - 1 ≡ cell = omega arith in
        (is.0, is.1, is.2.is.history, subst (λ n. IsHistory rules n (Begins n) is.2.is.history is.0) same (record { first = is.2.first; begins = is.2.begins; steps = is.2.is.steps }));
  }

-- nothing is left of one that didn't begin
pub nothing_halted : {Q P C W L : Type 0} (rules : Rules Q P C) (l : LinkWords L) (Begins : ℕ → C → Type 0) (clients : ℕ) → HasHalted {W = W} rules l Begins clients []
nothing_halted rules l Begins clients = record { many = inl refl; sequential = λ cell one few at. absurd (let never : ⊥ = cc at in never) }
