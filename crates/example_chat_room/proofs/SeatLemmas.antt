-- What the desk, the room and a client keep at a message.
use Rattle.std.proofs.Common.{◌≡◌, ◌<◌, ◌≤◌, ◌+◌, ◌-◌, ◌*◌, ◌/◌, ◌%◌, ◌^◌, ◌==◌, ◌⊎◌, ℕ, zero, suc, Bool, true, false, List, [], ◌∷◌, ◌++◌, Option, None, Some, if◌then◌else◌, length, refl, sym, ◌∙◌, ap, subst, arith, inl, inr, length-append}
use Rattle.std.proofs.Math.Nat.{add-mul-mod_self_left, mod-add-div}
use Rattle.std.proofs.lemmas.Bool.{cases_lt}
use Rattle.std.proofs.lemmas.Grind.{flat_map-append}
use Rattle.std.proofs.lemmas.List.{append-nil, append_assoc}
use Rattle.std.proofs.lemmas.List.Elements.{filter_map-append}
use Rattle.std.proofs.lemmas.List.Sums.{sum_by-append, sum_by-cons}
use Rattle.std.specs.List.{AllByRecursion, cons_option}
use Rattle.std.specs.Prelude.{IfSome, drop, is_some, slice_get, sum_by}
use Rattle.mely_event.specs.declared.colour.Colour.{Colour}
use Rattle.mely_actor.specs.Sending.{MaySend, sends_to}
use Rattle.sws_link.specs.Links.{IsInitialLink, LinkContents, input_of}
use Rattle.sws_link.specs.Worlds.{Coming, GivesBy, TakesNext, WorldContents}
use Rattle.sws_link.specs.declared.Accepted.{Accepted}
use Rattle.sws_link.specs.declared.Accepted.TheVariants as accepted
use Rattle.sws_link.specs.Counts.{Count}
use Rattle.sws_link.specs.declared.Link.{Ghosts as LinkWords}
use Rattle.example_chat_room.specs.declared.client.Client.{Client}
use Rattle.example_chat_room.specs.declared.desk.Desk.{Desk}
use Rattle.example_chat_room.specs.declared.end.End.{End}
use Rattle.example_chat_room.specs.declared.line.Line.{Line}
use Rattle.example_chat_room.specs.declared.message.Held.{Held}
use Rattle.example_chat_room.specs.declared.message.Message.{Message}
use Rattle.example_chat_room.specs.declared.message.Message.TheVariants.{Poll, Accept, Wait, Open, Wake, Cut, Say, Hear}
use Rattle.example_chat_room.specs.declared.part.Part.{Part}
use Rattle.example_chat_room.specs.declared.room.Room.{Room}
use Rattle.example_chat_room.specs.Clients.{shown_client}
use Rattle.example_chat_room.specs.Messages.{Holds, IsLinkOf, IsNewLink, MayAll, MayGet, event_of, IsQuiet, IsSigned, asks_world, behind, client_at, desk, has_open, heard_by_sends, heard_in, heard_since_open, is_open, line_heard, line_told, told_by_sends, told_in}
use Rattle.example_chat_room.specs.Parts.{Asks, IsClient, IsDesk, IsInputOf, IsPart, IsRoom, IsSeat, KeepsPart, shown_desk}
use Rattle.example_chat_room.specs.Shown.{all_said, said, shown_of, shown_to}
use Rattle.example_chat_room.specs.Talks.{ClientView, GoesOn, IsTalk, Keeps, Says, Shows}
use Rattle.example_chat_room.proofs.TalkLemmas.{at, talk_opened}

all_both : {A : Type 0} (P : A → Type 0) (xs ys : List A) → AllByRecursion P xs → AllByRecursion P ys → AllByRecursion P (xs ++ ys)
all_both P [] ys first second = second
all_both P (x ∷ xs) ys first second = (first.0, all_both P xs ys first.1 second)

-- ---- links to come

get_dropped : {X : Type 0} (n : ℕ) (xs rest : List X) (x : X) → drop n xs ≡ x ∷ rest → (slice_get xs n ≡ Some x) × (drop (n + 1) xs ≡ rest)
get_dropped zero [] rest x is = absurd (let no : ⊥ = cc is in no)
get_dropped zero (y ∷ xs) rest x is =
    let first : y ≡ x = cc is in
    let others : xs ≡ rest = cc is in
    (ap Some first, others)
get_dropped (suc n) [] rest x is = absurd (let no : ⊥ = cc is in no)
get_dropped (suc n) (y ∷ xs) rest x is =
    let got = get_dropped n xs rest x is in
    let more : suc n + 1 ≡ suc (n + 1) = omega arith in
    (got.0, ap (λ k. drop k (y ∷ xs)) more ∙ got.1)

pub link_is : (coming before now : Option (List Coming)) (told : Option LinkContents) (given : ℕ) → before ≡ behind given coming → TakesNext before told now → IsLinkOf coming given told × (now ≡ behind (given + 1) coming)
link_is None before now told given is takes = (tt, subst (λ b. TakesNext b told now) is takes)
link_is (Some coming) before now told given is takes =
    let so = subst (λ b. TakesNext b told now) is takes in
    let got = get_dropped given coming so.1 so.0 so.2 in
    ((so.0, got.0, so.4), so.3 ∙ ap Some (sym got.1))

module _ {W L : Type 0} (l : LinkWords L) (tells : W → WorldContents) (coming : Option (List Coming)) (clients : ℕ) where
  pub open_fits : (given : ℕ) (link : L) → given < clients → IsNewLink l coming given link → MayAll l tells coming clients ((record { 0 = given + 2 }, Open link) ∷ [])
  open_fits given link few new =
      let back : given + 2 - 2 ≡ given = omega arith in
      (record { there = omega arith; own = omega arith; row = omega arith; is_sound = (record { behind_room = omega arith; there = omega arith }, subst (λ n. IsNewLink l coming n link) (sym back) new) }, tt)

  pub poll_fits : (held : Held W) → Holds tells coming clients held → MayAll l tells coming clients ((record { 0 = 0 }, Poll held) ∷ [])
  poll_fits held holds = (record { there = omega arith; own = omega arith; row = omega arith; is_sound = (refl, λ _. holds) }, tt)

  pub all_fit : (sends more : List (Colour × Message W L)) → MayAll l tells coming clients sends → MayAll l tells coming clients more → MayAll l tells coming clients (sends ++ more)
  all_fit sends more first second = all_both (MaySend (clients + 2) 9 event_of (MayGet l tells coming clients)) sends more first second

module _ {W L : Type 0} (l : LinkWords L) (tells : W → WorldContents) (coming : Option (List Coming)) (clients : ℕ) (held : Held W) (world : W) (holds : Holds tells coming clients held) where
  -- the world has given the next link
  pub link_given : (faults waits : L → Count) (answer : Accepted L) (link : L) → GivesBy l.tells l.is_shut faults waits (tells held.world) answer (tells world) → answer ≡ accepted.Link link → IsNewLink l coming held.accepted link × Holds tells coming clients (record { world = world; accepted = held.accepted + 1 })
  link_given faults waits answer link gives is =
      let gave = subst (λ a. GivesBy l.tells l.is_shut faults waits (tells held.world) a (tells world)) is gives in
      let so = link_is coming (tells held.world).coming (tells world).coming (l.tells link) held.accepted holds.left gave.next in (
        record { not_shut = gave.not_shut; initial = gave.initial; is = so.0 },
        record {
          accepted = ap (λ w. w.accepted) gave.counted ∙ ap (λ n. n + 1) holds.accepted;
          total = ap (λ w. w.total) gave.counted ∙ holds.total;
          left = so.1;
        },
      )

  -- or tells what it told before
  pub none_given : tells world ≡ tells held.world → Holds tells coming clients (record { world = world; accepted = held.accepted })
  none_given same = record { accepted = ap (λ w. w.accepted) same ∙ holds.accepted; total = ap (λ w. w.total) same ∙ holds.total; left = ap (λ w. w.coming) same ∙ holds.left }

-- ---- messages, with one more

module _ {W L : Type 0} where
  open_push : (messages : List (Message W L)) (m : Message W L) → has_open (messages ++ m ∷ []) ≡ (if has_open messages then true else is_open m)
  open_push [] m = for (is_open m) where
    for : (b : Bool) → (if b then true else false) ≡ b
    for true = refl
    for false = refl
  open_push (one ∷ messages) m = for (is_open one) (open_push messages m) where
    for : (b : Bool) → has_open (messages ++ m ∷ []) ≡ (if has_open messages then true else is_open m) → (if b then true else has_open (messages ++ m ∷ [])) ≡ (if (if b then true else has_open messages) then true else is_open m)
    for true rest = refl
    for false rest = rest

  not_opened : (messages : List (Message W L)) (m : Message W L) → is_open m ≡ false → has_open (messages ++ m ∷ []) ≡ has_open messages
  not_opened messages m none = open_push messages m ∙ ap (λ b. if has_open messages then true else b) none ∙ for (has_open messages) where
    for : (b : Bool) → (if b then true else false) ≡ b
    for true = refl
    for false = refl

  opened : (messages : List (Message W L)) (m : Message W L) → is_open m ≡ true → has_open (messages ++ m ∷ []) ≡ true
  opened messages m opens = open_push messages m ∙ ap (λ b. if has_open messages then true else b) opens ∙ for (has_open messages) where
    for : (b : Bool) → (if b then true else true) ≡ true
    for true = refl
    for false = refl

  open_both : (messages others : List (Message W L)) → has_open (messages ++ others) ≡ (if has_open messages then true else has_open others)
  open_both [] others = refl
  open_both (one ∷ messages) others = for (is_open one) (open_both messages others) where
    for : (b : Bool) → has_open (messages ++ others) ≡ (if has_open messages then true else has_open others) → (if b then true else has_open (messages ++ others)) ≡ (if (if b then true else has_open messages) then true else has_open others)
    for true rest = refl
    for false rest = rest

  since_none : (messages : List (Message W L)) → has_open messages ≡ false → heard_since_open messages ≡ []
  since_none [] none = refl
  since_none (one ∷ messages) none = for (is_open one) none (since_none messages) where
    for : (b : Bool) → (if b then true else has_open messages) ≡ false → (has_open messages ≡ false → heard_since_open messages ≡ []) → (if b then heard_in messages else heard_since_open messages) ≡ []
    for true is rest = absurd (let no : ⊥ = cc is in no)
    for false is rest = rest is

  since_before : (messages : List (Message W L)) (m : Message W L) → has_open messages ≡ false → heard_since_open (messages ++ m ∷ []) ≡ []
  since_before [] m none = for (is_open m) where
    for : (b : Bool) → (if b then heard_in {W = W} {L = L} [] else heard_since_open {W = W} {L = L} []) ≡ []
    for true = refl
    for false = refl
  since_before (one ∷ messages) m none = for (is_open one) none (since_before messages m) where
    for : (b : Bool) → (if b then true else has_open messages) ≡ false → (has_open messages ≡ false → heard_since_open (messages ++ m ∷ []) ≡ []) → (if b then heard_in (messages ++ m ∷ []) else heard_since_open (messages ++ m ∷ [])) ≡ []
    for true is rest = absurd (let no : ⊥ = cc is in no)
    for false is rest = rest is

  since_behind : (messages : List (Message W L)) (m : Message W L) → has_open messages ≡ true → heard_since_open (messages ++ m ∷ []) ≡ heard_since_open messages ++ heard_in (m ∷ [])
  since_behind [] m some = absurd (let no : ⊥ = cc some in no)
  since_behind (one ∷ messages) m some = for (is_open one) some (since_behind messages m) where
    for : (b : Bool) → (if b then true else has_open messages) ≡ true → (has_open messages ≡ true → heard_since_open (messages ++ m ∷ []) ≡ heard_since_open messages ++ heard_in (m ∷ []))
        → (if b then heard_in (messages ++ m ∷ []) else heard_since_open (messages ++ m ∷ [])) ≡ (if b then heard_in messages else heard_since_open messages) ++ heard_in (m ∷ [])
    for true is rest = filter_map-append line_heard messages (m ∷ [])
    for false is rest = rest is

  since_same : (messages : List (Message W L)) (m : Message W L) → line_heard m ≡ None → heard_since_open (messages ++ m ∷ []) ≡ heard_since_open messages
  since_same messages m none = for (has_open messages) refl where
    for : (b : Bool) → has_open messages ≡ b → heard_since_open (messages ++ m ∷ []) ≡ heard_since_open messages
    for true is = since_behind messages m is ∙ ap (λ o. heard_since_open messages ++ cons_option o []) none ∙ append-nil (heard_since_open messages)
    for false is = since_before messages m is ∙ sym (since_none messages is)

  said_more : (sent new : List (Colour × Message W L)) → all_said (told_by_sends (sent ++ new)) ≡ all_said (told_by_sends sent) ++ all_said (told_by_sends new)
  said_more sent new = ap all_said (filter_map-append (λ (send : Colour × Message W L). line_told send.1) sent new) ∙ flat_map-append said (told_by_sends sent) (told_by_sends new)

  said_none : (sent new : List (Colour × Message W L)) → told_by_sends new ≡ [] → all_said (told_by_sends (sent ++ new)) ≡ all_said (told_by_sends sent)
  said_none sent new none = said_more sent new ∙ ap (λ n. all_said (told_by_sends sent) ++ all_said n) none ∙ append-nil (all_said (told_by_sends sent))

  -- what is quiet is signed by whomever
  quiet_one : (sender : Colour) (send : Colour × Message W L) → IsQuiet send.1 → IsSigned sender send
  quiet_one sender (to, Poll held) quiet = tt
  quiet_one sender (to, Accept held) quiet = tt
  quiet_one sender (to, Wait client) quiet = tt
  quiet_one sender (to, Open link) quiet = tt
  quiet_one sender (to, Wake) quiet = tt
  quiet_one sender (to, Cut) quiet = tt
  quiet_one sender (to, Say line) quiet = absurd quiet
  quiet_one sender (to, Hear line) quiet = absurd quiet

  pub quiet_signed : (sender : Colour) (sends : List (Colour × Message W L)) → AllByRecursion (λ send. IsQuiet send.1) sends → AllByRecursion (IsSigned sender) sends
  quiet_signed sender [] quiet = tt
  quiet_signed sender (send ∷ sends) quiet = (quiet_one sender send quiet.0, quiet_signed sender sends quiet.1)

shown_more : (own : ℕ) (seen : List Line) (line : Line) → shown_to own (seen ++ line ∷ []) ≡ shown_to own seen ++ shown_of own line
shown_more own seen line = flat_map-append (shown_of own) seen (line ∷ []) ∙ ap (λ l. shown_to own seen ++ l) (append-nil (shown_of own line))

pub says_none : (before after : ClientView) → Keeps before after → Says [] before after
says_none before after keeps = λ input so_far shown talk. subst (λ s. IsTalk input s shown after) (sym (append-nil so_far)) (keeps input so_far shown talk)

pub keeps_same : (before after : ClientView) → after ≡ before → Keeps before after
keeps_same before after same = λ input so_far shown talk. subst (IsTalk input so_far shown) (sym same) talk

pub goes_same : (before after : ClientView) → after ≡ before → GoesOn before after
goes_same before after same = record { has_come = ap (λ v. v.has_come) same; goes_on = λ e. sym (ap (λ v. v.end) same) ∙ e }

-- ---- a client

module _ {W L : Type 0} (l : LinkWords L) (coming : Option (List Coming)) (own : ℕ) (sent new : List (Colour × Message W L)) (received : List (Message W L)) (m : Message W L) (before after : Client L l) where
  abbrev Before : Type 0
  Before = IsClient l coming own (told_by_sends sent) received before

  abbrev After : Type 0
  After = IsClient l coming own (told_by_sends (sent ++ new)) (received ++ m ∷ []) after

  -- it goes on by itself, and says something or not
  pub client_says : is_open m ≡ false → line_heard m ≡ None → GoesOn (shown_client before) (shown_client after) → Says (all_said (told_by_sends new)) (shown_client before) (shown_client after) → Before → After
  client_says no_open none goes says kept = record {
    come = goes.has_come ∙ kept.come ∙ sym (not_opened received m no_open);
    seen = kept.seen;
    missed = kept.missed;
    heard = since_same received m none ∙ kept.heard;
    none_missed = λ e. kept.none_missed (goes.goes_on e);
    input = kept.input;
    is_input = λ come. kept.is_input (sym goes.has_come ∙ come);
    talk = subst (λ s. IsTalk kept.input s (shown_to own kept.seen) (shown_client after)) (sym (said_more sent new)) (says kept.input (all_said (told_by_sends sent)) (shown_to own kept.seen) kept.talk);
  }

  -- a line is heard
  pub client_hears : (line : Line) → is_open m ≡ false → line_heard m ≡ Some line → told_by_sends new ≡ []
      → ((shown_client before).has_come ≡ true → before.end ≡ None → Shows (shown_of own line) (shown_client before) (shown_client after))
      → ((shown_client before).has_come ≡ false → shown_client after ≡ shown_client before)
      → (is_some before.end ≡ true → shown_client after ≡ shown_client before)
      → GoesOn (shown_client before) (shown_client after) → Before → After
  client_hears line no_open hears none shows same_before same_after goes kept = for (is_some before.link) refl before.end refl where
    saying : (input shown : List ℕ) → IsTalk input (all_said (told_by_sends sent)) shown (shown_client after) → IsTalk input (all_said (told_by_sends (sent ++ new))) shown (shown_client after)
    saying input shown talk = subst (λ s. IsTalk input s shown (shown_client after)) (sym (said_none sent new none)) talk

    for : (come : Bool) → is_some before.link ≡ come → (end : Option End) → before.end ≡ end → After
    for false come end is =
        let same = same_before come in
        let closed = sym kept.come ∙ come in
        record {
          come = goes.has_come ∙ kept.come ∙ sym (not_opened received m no_open);
          seen = kept.seen;
          missed = kept.missed;
          heard = since_before received m closed ∙ sym (since_none received closed) ∙ kept.heard;
          none_missed = λ e. kept.none_missed (goes.goes_on e);
          input = kept.input;
          is_input = λ there. kept.is_input (sym goes.has_come ∙ there);
          talk = saying kept.input (shown_to own kept.seen) (keeps_same (shown_client before) (shown_client after) same kept.input (all_said (told_by_sends sent)) (shown_to own kept.seen) kept.talk);
        }
    for true come (Some end) is =
        let same = same_after (ap is_some is) in
        record {
          come = goes.has_come ∙ kept.come ∙ sym (not_opened received m no_open);
          seen = kept.seen;
          missed = kept.missed ++ line ∷ [];
          heard = since_behind received m (sym kept.come ∙ come) ∙ ap (λ o. heard_since_open received ++ cons_option o []) hears ∙ ap (λ h. h ++ line ∷ []) kept.heard ∙ append_assoc kept.seen kept.missed (line ∷ []);
          none_missed = λ e. absurd (let gone = goes.goes_on e in let no : ⊥ = cc (gone, is) in no);
          input = kept.input;
          is_input = λ there. kept.is_input (sym goes.has_come ∙ there);
          talk = saying kept.input (shown_to own kept.seen) (keeps_same (shown_client before) (shown_client after) same kept.input (all_said (told_by_sends sent)) (shown_to own kept.seen) kept.talk);
        }
    for true come None is =
        let empty = kept.none_missed is in
        record {
          come = goes.has_come ∙ kept.come ∙ sym (not_opened received m no_open);
          seen = kept.seen ++ line ∷ [];
          missed = [];
          heard = since_behind received m (sym kept.come ∙ come) ∙ ap (λ o. heard_since_open received ++ cons_option o []) hears ∙ ap (λ h. h ++ line ∷ []) (kept.heard ∙ ap (λ n. kept.seen ++ n) empty ∙ append-nil kept.seen) ∙ sym (append-nil (kept.seen ++ line ∷ []));
          none_missed = λ e. refl;
          input = kept.input;
          is_input = λ there. kept.is_input (sym goes.has_come ∙ there);
          talk = saying kept.input (shown_to own (kept.seen ++ line ∷ [])) (subst (λ s. IsTalk kept.input (all_said (told_by_sends sent)) s (shown_client after)) (sym (shown_more own kept.seen line)) (shows come is kept.input (all_said (told_by_sends sent)) (shown_to own kept.seen) kept.talk));
        }

  -- its link comes
  pub client_opens : (told : Option LinkContents) → is_open m ≡ true → line_heard m ≡ None → told_by_sends new ≡ [] → IsLinkOf coming own told → IsInitialLink told
      → ((shown_client before).has_come ≡ false → shown_client after ≡ at true told before.inbox.bytes.items before.outbox.bytes.items before.end)
      → ((shown_client before).has_come ≡ true → shown_client after ≡ shown_client before)
      → Before → After
  client_opens told opens hears none is_link initial first second kept = for (is_some before.link) refl where
    for : (come : Bool) → is_some before.link ≡ come → After
    for true come =
        let same = second come in
        record {
          come = ap (λ v. v.has_come) same ∙ come ∙ sym (opened received m opens);
          seen = kept.seen;
          missed = kept.missed;
          heard = since_same received m hears ∙ kept.heard;
          none_missed = λ e. kept.none_missed (sym (ap (λ v. v.end) same) ∙ e);
          input = kept.input;
          is_input = λ there. kept.is_input (sym (ap (λ v. v.has_come) same) ∙ there);
          talk = subst (λ s. IsTalk kept.input s (shown_to own kept.seen) (shown_client after)) (sym (said_none sent new none)) (keeps_same (shown_client before) (shown_client after) same kept.input (all_said (told_by_sends sent)) (shown_to own kept.seen) kept.talk);
        }
    for false come =
        let is = first come in
        let closed = sym kept.come ∙ come in
        let talks = talk_opened (shown_client before) kept.input (all_said (told_by_sends sent)) (shown_to own kept.seen) told come initial kept.talk in
        record {
          come = ap (λ v. v.has_come) is ∙ sym (opened received m opens);
          seen = kept.seen;
          missed = kept.missed;
          heard = since_before received m closed ∙ sym (since_none received closed) ∙ kept.heard;
          none_missed = λ e. kept.none_missed (sym (ap (λ v. v.end) is) ∙ e);
          input = talks.0;
          is_input = λ _. input_so coming told is_link talks.0 talks.1;
          talk = subst (λ s. IsTalk talks.0 s (shown_to own kept.seen) (shown_client after)) (sym (said_none sent new none)) (subst (IsTalk talks.0 (all_said (told_by_sends sent)) (shown_to own kept.seen)) (sym is) talks.2);
        }
      where
        input_so : (all : Option (List Coming)) (seen : Option LinkContents) → IsLinkOf all own seen → (input : List ℕ) → IfSome seen (λ t. input ≡ input_of t) → IsInputOf all own input
        input_so None seen so input here = tt
        input_so (Some all) seen so input here = (so.0, so.1, subst (λ t. IfSome t (λ o. input ≡ input_of o)) so.2 here)

-- ---- a seat

module _ {W L : Type 0} (l : LinkWords L) (coming : Option (List Coming)) (clients : ℕ) (colour : Colour) (received : List (Message W L)) (sent new : List (Colour × Message W L)) (m : Message W L) where
  pub seat_goes : (before after : Client L l) → (colour.0 + 1 < clients + 2 → heard_by_sends new ≡ heard_in (m ∷ []))
      → (IsClient l coming (colour.0 - 2) (told_by_sends sent) received before → IsClient l coming (colour.0 - 2) (told_by_sends (sent ++ new)) (received ++ m ∷ []) after)
      → IsSeat l coming clients colour received sent before → IsSeat l coming clients colour (received ++ m ∷ []) (sent ++ new) after
  seat_goes before after passed goes kept = record {
    own = kept.own;
    passed = λ low. filter_map-append (λ (send : Colour × Message W L). line_heard send.1) sent new ∙ ap (λ h. h ++ heard_by_sends new) (kept.passed low) ∙ ap (λ h. heard_in received ++ h) (passed low) ∙ sym (filter_map-append line_heard received (m ∷ []));
    is = goes kept.is;
  }

  -- the room gets a line, or nothing that concerns it
  pub room_goes : (before after : Room) → heard_by_sends new ≡ told_in (m ∷ []) → after.lines ≡ (before.lines + length (told_in (m ∷ []))) % 2 ^ 64
      → IsRoom l coming clients colour received sent before → IsRoom l coming clients colour (received ++ m ∷ []) (sent ++ new) after
  room_goes before after passed counts kept = record {
    own = kept.own;
    passed = filter_map-append (λ (send : Colour × Message W L). line_heard send.1) sent new ∙ ap (λ h. h ++ heard_by_sends new) kept.passed ∙ ap (λ h. told_in received ++ h) passed ∙ sym (filter_map-append line_told received (m ∷ []));
    counted = counts ∙ ap (λ n. (n + length (told_in (m ∷ []))) % 2 ^ 64) kept.counted ∙ added (2 ^ 64) (length (told_in received)) (length (told_in (m ∷ []))) ∙ sym (ap (λ t. length t % 2 ^ 64) (filter_map-append line_told received (m ∷ [])) ∙ ap (λ n. n % 2 ^ 64) (length-append (told_in received) (told_in (m ∷ []))));
  }
    where
      added : (many n k : ℕ) → (n % many + k) % many ≡ (n + k) % many
      added many n k =
          let parts = mod-add-div n many in
          let is : n + k ≡ (n % many + k) + many * (n / many) = omega (arith, parts) in
          sym (ap (λ a. a % many) is ∙ add-mul-mod_self_left (n % many + k) many (n / many))

  -- the desk
  pub desk_goes : (before after : Desk W) → Asks clients (asks_world m) (shown_desk before) (shown_desk after) new → IsDesk l coming clients colour received sent before → IsDesk l coming clients colour (received ++ m ∷ []) (sent ++ new) after
  desk_goes before after asks kept = record {
    own = kept.own;
    asked = λ well.
        let was = kept.asked (asks.goes_on well) in
        let now = asks.asks well in
        let came = sum_by-append asks_world received (m ∷ []) in
        let one : sum_by asks_world (m ∷ []) ≡ asks_world m = one_asked m in
        let went = sum_by-append (λ (send : Colour × Message W L). if send.0.0 == desk.0 then asks_world send.1 else 0) sent new in
        omega (arith, was, now, came, one, went);
    all = λ well rests. all_given well rests (is_some before.resting) refl;
    opened = λ client low. elim (cases_lt client before.given) [
      | inl was ↦ in_either client (has_open (sends_to (client_at client) sent)) refl (inl (kept.opened client was))
      | inr more ↦ in_either client (has_open (sends_to (client_at client) sent)) refl (inr (asks.opens client more low))
    ];
  }
    where
      one_asked : (one : Message W L) → sum_by asks_world (one ∷ []) ≡ asks_world one
      one_asked one = let all = sum_by-cons asks_world one [] in omega (arith, all)

      all_given : after.is_broken ≡ false → is_some after.resting ≡ true → (rested : Bool) → is_some before.resting ≡ rested → clients ≤ after.given
      all_given well rests true rested = let was = kept.all (asks.goes_on well) rested in let more = asks.grows in omega (arith, was, more)
      all_given well rests false rested = asks.all well rests rested

      in_either : (client : ℕ) (was : Bool) → has_open (sends_to (client_at client) sent) ≡ was → (has_open (sends_to (client_at client) sent) ≡ true) ⊎ (has_open (sends_to (client_at client) new) ≡ true) → has_open (sends_to (client_at client) (sent ++ new)) ≡ true
      in_either client was is either =
          ap has_open (filter_map-append (λ (send : Colour × Message W L). if send.0.0 == (client_at client).0 then Some send.1 else None) sent new) ∙ open_both (sends_to (client_at client) sent) (sends_to (client_at client) new) ∙ choose was is either
        where
          choose : (was : Bool) → has_open (sends_to (client_at client) sent) ≡ was → (has_open (sends_to (client_at client) sent) ≡ true) ⊎ (has_open (sends_to (client_at client) new) ≡ true) → (if has_open (sends_to (client_at client) sent) then true else has_open (sends_to (client_at client) new)) ≡ true
          choose true is_ either_ = ap (λ b. if b then true else has_open (sends_to (client_at client) new)) is_
          choose false is_ (inl first) = absurd (let no : ⊥ = cc (is_, first) in no)
          choose false is_ (inr second) = ap (λ b. if b then true else has_open (sends_to (client_at client) new)) is_ ∙ second

-- a colour keeps what its part does, and signs what it sends
pub part_goes : {W L : Type 0} (l : LinkWords L) (coming : Option (List Coming)) (clients : ℕ) (colour : Colour) (received more : List (Message W L)) (sent new : List (Colour × Message W L)) (before after : Part W L l) → AllByRecursion (IsSigned colour) new
    → (IsPart l coming clients colour received sent before → IsPart l coming clients colour more (sent ++ new) after) → KeepsPart l coming clients colour received sent before → KeepsPart l coming clients colour more (sent ++ new) after
part_goes l coming clients colour received more sent new before after signed goes kept = record { signed = all_both (IsSigned colour) sent new kept.signed signed; is = goes kept.is }
