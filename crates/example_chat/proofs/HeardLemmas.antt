-- What each client has heard is what the room keeps.
use Rattle.std.proofs.Common.{◌≡◌, ◌<◌, ◌≤◌, ◌+◌, ◌*◌, ◌/◌, ◌%◌, ◌==◌, ℕ, Bool, true, false, List, [], ◌∷◌, Option, Some, None, nat_lt, if◌then◌else◌, length, map, refl, sym, ◌∙◌, ap, arith}
use Rattle.std.proofs.lemmas.List.Sums.{sum_by-append, sum_by-cons}
use Rattle.std.proofs.lemmas.Option.{slice_get_within}
use Rattle.std.specs.List.{AllByRecursion}
use Rattle.std.specs.Prelude.{filter_map, slice_get, sum_by}
use Rattle.mely_event.specs.declared.colour.Colour.{Colour}
use Rattle.mely_event.specs.declared.event.Event.{Event}
use Rattle.mely_history.specs.declared.entry.Entry.{Entry}
use Rattle.mely_history.specs.declared.setup.Setup.{Setup}
use Rattle.mely_history.specs.Setup.{colours_of}
use Rattle.mely_weave.proofs.Wholes.GatherLemmas.{get_there}
use Rattle.mely_app.specs.Puts.{sum_colours}
use Rattle.mely_app.proofs.PutsLemmas.{colours_same}
use Rattle.mely_actor.specs.declared.actor.Actor.{Ghosts as ActorWords}
use Rattle.mely_actor.specs.Received.{AreKept}
use Rattle.mely_actor.specs.Sending.{count_to, is_sent_by, none_sent, sends_to}
use Rattle.mely_actor.proofs.ListLemmas.{all_so, arrived_by}
use Rattle.example_chat.specs.declared.message.Message.{Message}
use Rattle.example_chat.specs.declared.message.Message.TheVariants.{Say, Line, Hear}
use Rattle.example_chat.specs.declared.script.Line.{Line as ScriptLine}
use Rattle.example_chat.specs.declared.seat.Seat.{Seat}
use Rattle.example_chat.specs.declared.chat.TheConstants.{CLIENTS}
use Rattle.example_chat.specs.Chats.{IsByClient, IsSeat, MayHear, Note, Sent, along, note_of, notes, room, said, says, sent_as, to_clients}
use Rattle.example_chat.specs.Talked.{IsTalked, lines_of, said_by}
use Rattle.example_chat.proofs.OrderLemmas.{all_from, all_told, client_keeps, client_passes, heard_as, many_lines, many_of, own_line, own_lines, pick, picked_many, picked_sends, picks, posted_lines, room_keeps, room_sends, said_as, sents_many, size, told_as, told_one, told_size}
use Rattle.example_chat.proofs.ToldLemmas.{as_told, client_tells, clients_each, counts_words, none_says, of_said, of_words, posted_all, posted_elsewhere, posted_to, room_elsewhere, sent_by, sent_step, to_it, to_none}

-- a number of what is heard alone
abbrev of_heard : (Event → List ℕ → ℕ) → Event → List ℕ → ℕ
of_heard number event text = if event.handler == 3 then number event text else 0

-- the number of a line that the room keeps, as a client hears it
abbrev as_heard : (Event → List ℕ → ℕ) → Note → ℕ
as_heard number note = number (record { handler = 3; arg = note.0 * 256 + note.1 }) note.2

module _ (script : List ScriptLine) (number : Event → List ℕ → ℕ) (c : Colour) where
  -- the numbers of lines that are sent to the colour to be heard
  abbrev pub heard_of : List Sent → ℕ
  heard_of sends = to_it c (of_heard number) sends

  -- to each client the room sends what it keeps
  room_hears : 0 < c.0 → c.0 ≤ CLIENTS → (before : ℕ) (received : List Message) → AllByRecursion (MayHear script room) received → heard_of (sent_by before received) ≡ sum_by (as_heard number) (along notes before received)
  room_hears some high before [] may = refl
  room_hears some high before (Say k text ∷ more) may = absurd (let low = may.0.0 in omega (arith, low))
  room_hears some high before (Hear p k text ∷ more) may = absurd (let low = may.0.0 in omega (arith, low))
  room_hears some high before (Line k text ∷ more) may =
      let rest = room_hears some high (before + 1) more may.1 in
      let step = sent_step c (of_heard number) before (Line k text) more in
      let all = sum_by-append (as_heard number) (notes before (Line k text)) (along notes (before + 1) more) in
      let one : heard_of (says before (Line k text)) ≡ sum_by (as_heard number) (notes before (Line k text)) = with_one (nat_lt before 256) in
      omega (arith, rest, step, all, one)
    where
      with_one : (b : Bool) → heard_of (if b then to_clients (record { handler = 3; arg = before * 256 + k }) text.items else []) ≡ sum_by (as_heard number) (if b then (before, k, text.items) ∷ [] else [])
      with_one true =
          let each : heard_of (to_clients (record { handler = 3; arg = before * 256 + k }) text.items) ≡ number (record { handler = 3; arg = before * 256 + k }) text.items = clients_each c (of_heard number) (record { handler = 3; arg = before * 256 + k }) text.items some high in
          let one : sum_by (as_heard number) ((before, k, text.items) ∷ []) ≡ number (record { handler = 3; arg = before * 256 + k }) text.items + 0 = sum_by-cons (as_heard number) (before, k, text.items) [] in
          omega (arith, each, one)
      with_one false = refl

  -- a client sends nothing to be heard
  client_silent : (d : Colour) → 0 < d.0 → (before : ℕ) (received : List Message) → AllByRecursion (MayHear script d) received → heard_of (sent_by before received) ≡ 0
  client_silent d low before [] may = refl
  client_silent d low before (Line k text ∷ more) may = absurd (let is = may.0.0 in omega (arith, is, low))
  client_silent d low before (Say k text ∷ more) may = to_none c (of_heard number) room (record { handler = 2; arg = k }) text.items (sent_by (before + 1) more) refl ∙ client_silent d low (before + 1) more may.1
  client_silent d low before (Hear p k text ∷ more) may = client_silent d low (before + 1) more may.1

  -- nothing that is posted is heard
  none_posted : (k : ℕ) (lines : List ScriptLine) → heard_of (map sent_as (said k lines)) ≡ 0
  none_posted k [] = refl
  none_posted k (line ∷ lines) = to_none c (of_heard number) (record { 0 = line.client }) (record { handler = 1; arg = k }) line.text.items (map sent_as (said (k + 1) lines)) refl ∙ none_posted (k + 1) lines

module _ {A : Type 0} (a : ActorWords A Seat Message) (chat : A) (script : List ScriptLine) (setup : Setup) (histories : List (List Entry)) (seats : List Seat) (colours : colours_of setup ≡ CLIENTS + 1) (sounds : (c : Colour) (message : Message) → a.sound chat c message → MayHear script c message)
    (keeps : (c : Colour) (received : List Message) (sent : List (Colour × Message)) (seat : Seat) → a.kept chat c received sent seat → IsSeat received sent seat.heard.items) (posts : List (Colour × Message)) (posts_are : posts ≡ said 0 script) (by : AllByRecursion IsByClient script) (few : length script ≤ 256) (kept : AreKept a chat setup posts histories seats) where
  may : (c : Colour) → c.0 < CLIENTS + 1 → AllByRecursion (MayHear script c) (kept.received c)
  may c low = all_so (a.sound chat c) (MayHear script c) (kept.received c) (sounds c) (kept.sound c (omega (arith, low, colours)))

  -- what a colour has sent
  sent_is : (c : Colour) → c.0 < CLIENTS + 1 → map sent_as (kept.sent c) ≡ sent_by 0 (kept.received c)
  sent_is c low =
      let many = kept.many in
      let there = get_there seats c.0 (omega (arith, low, many, colours)) in
      (keeps c (kept.received c) (kept.sent c) there.0 (kept.kept c there.0 there.1)).passed

  -- what was sent to a colour by another
  abbrev by_it : Colour → (Event → List ℕ → ℕ) → ℕ → ℕ
  by_it c f d = to_it c f (map sent_as (kept.sent (record { 0 = d })))

  -- what a colour received is what was posted to it and what was sent to it
  counted_is : (f : Event → List ℕ → ℕ) (c : Colour) → c.0 < CLIENTS + 1 → sum_by (of_words f) (kept.received c) ≡ to_it c f (map sent_as (said 0 script)) + by_it c f 0 + by_it c f 1 + by_it c f 2 + by_it c f 3 + by_it c f 4
  counted_is f c low =
      let counted = arrived_by a chat setup posts histories seats kept (CLIENTS + 1) colours c (of_words f) low in
      let all = ap (λ (l : List (Colour × Message)). count_to c (of_words f) l) posts_are ∙ counts_words c f (said 0 script) in
      let five : sum_colours (CLIENTS + 1) (λ d. to_it c f (map sent_as (kept.sent d))) ≡ 0 + by_it c f 0 + by_it c f 1 + by_it c f 2 + by_it c f 3 + by_it c f 4 = refl in
      let words = colours_same (CLIENTS + 1) (λ d. count_to c (of_words f) (kept.sent d)) (λ d. to_it c f (map sent_as (kept.sent d))) (λ d _. counts_words c f (kept.sent d)) in
      omega (arith, counted, all, five, words)

  -- a client is to say what is posted to it
  client_says : (number : Event → List ℕ → ℕ) (d : ℕ) → d < CLIENTS + 1 → sum_by (of_words (of_said number)) (kept.received (record { 0 = d })) ≡ posted_to script number d 0 script
  client_says number d low =
      let c : Colour = record { 0 = d } in
      let all = counted_is (of_said number) c low in
      let none : (e : ℕ) → e < CLIENTS + 1 → by_it c (of_said number) e ≡ 0 = λ e below. (ap (to_it c (of_said number)) (sent_is (record { 0 = e }) below) ∙ none_says script number c 0 (kept.received (record { 0 = e }))) in
      let zeroth = none 0 (omega arith) in
      let first = none 1 (omega arith) in
      let second = none 2 (omega arith) in
      let third = none 3 (omega arith) in
      let fourth = none 4 (omega arith) in
      omega (arith, all, zeroth, first, second, third, fourth)

  client_told : (number : Event → List ℕ → ℕ) (d : ℕ) → 0 < d → d < CLIENTS + 1 → by_it room number d ≡ posted_to script number d 0 script
  client_told number d some low = ap (to_it room number) (sent_is (record { 0 = d }) low) ∙ client_tells script number (record { 0 = d }) some 0 (kept.received (record { 0 = d })) (may (record { 0 = d }) low) ∙ client_says number d low

  -- the room is told each line of the script
  room_told : (number : Event → List ℕ → ℕ) → sum_by (of_words number) (kept.received room) ≡ as_told number 0 script
  room_told number =
      let all = counted_is number room (omega arith) in
      let posted = posted_elsewhere script number 0 script by in
      let zeroth = ap (to_it room number) (sent_is room (omega arith)) ∙ room_elsewhere script number 0 (kept.received room) (may room (omega arith)) in
      let first = client_told number 1 (omega arith) (omega arith) in
      let second = client_told number 2 (omega arith) (omega arith) in
      let third = client_told number 3 (omega arith) (omega arith) in
      let fourth = client_told number 4 (omega arith) (omega arith) in
      let lines = posted_all script number 0 script by in
      omega (arith, all, posted, zeroth, first, second, third, fourth, lines)

  -- each client has heard what the room keeps
  each_heard : (number : Event → List ℕ → ℕ) (c : Colour) → 0 < c.0 → c.0 ≤ CLIENTS → sum_by (of_words (of_heard number)) (kept.received c) ≡ sum_by (as_heard number) (along notes 0 (kept.received room))
  each_heard number c some high =
      let all = counted_is (of_heard number) c (omega (arith, high)) in
      let posted = none_posted script number c 0 script in
      let zeroth = ap (to_it c (of_heard number)) (sent_is room (omega arith)) ∙ room_hears script number c some high 0 (kept.received room) (may room (omega arith)) in
      let none : (d : ℕ) → 0 < d → d < CLIENTS + 1 → by_it c (of_heard number) d ≡ 0 = λ d low below. (ap (to_it c (of_heard number)) (sent_is (record { 0 = d }) below) ∙ client_silent script number c (record { 0 = d }) low 0 (kept.received (record { 0 = d })) (may (record { 0 = d }) below)) in
      let first = none 1 (omega arith) (omega arith) in
      let second = none 2 (omega arith) (omega arith) in
      let third = none 3 (omega arith) (omega arith) in
      let fourth = none 4 (omega arith) (omega arith) in
      omega (arith, all, posted, zeroth, first, second, third, fourth)

  -- ---- in what order

  low_of : (c : Colour) → c.0 < CLIENTS + 1 → c.0 < colours_of setup
  low_of c low = omega (arith, low, colours)

  from_posts : {Y : Type 0} (f : Event → List ℕ → Option Y) (c : Colour) → c.0 < CLIENTS + 1 → length (filter_map (pick f) (kept.received c)) ≡ length (picks c f (map sent_as (said 0 script))) → filter_map (pick f) (kept.received c) ≡ picks c f (map sent_as (said 0 script))
  from_posts f c low many =
      let is = ap (λ l. filter_map (pick f) (sends_to c l)) posts_are ∙ picked_sends f c (said 0 script) in
      all_from none_sent (pick f) (kept.senders c) (kept.received c) (sends_to c posts) (kept.all_sent c (low_of c low)) (kept.posted c (low_of c low)) (many ∙ sym (ap length is)) ∙ is

  from_sender : {Y : Type 0} (f : Event → List ℕ → Option Y) (c d : Colour) (ys : List Y) → c.0 < CLIENTS + 1 → d.0 < CLIENTS + 1 → picks c f (along says 0 (kept.received d)) ≡ ys → length (filter_map (pick f) (kept.received c)) ≡ length ys → filter_map (pick f) (kept.received c) ≡ ys
  from_sender f c d ys low there are many =
      let is = picked_sends f c (kept.sent d) ∙ ap (picks c f) (sent_is d there) ∙ are in
      all_from (is_sent_by d) (pick f) (kept.senders c) (kept.received c) (sends_to c (kept.sent d)) (kept.all_sent c (low_of c low)) (kept.in_order c d (low_of c low)) (many ∙ sym (ap length is)) ∙ is

  one_if : {Y : Type 0} (b : Bool) (y : Y) → size (if b then Some y else None) ≡ (if b then 1 else 0)
  one_if true y = refl
  one_if false y = refl

  -- a client is to say its lines, in the order of the script
  client_lines : (d : ℕ) → d < CLIENTS + 1 → filter_map (pick said_as) (kept.received (record { 0 = d })) ≡ lines_of d 0 script
  client_lines d low =
      let c : Colour = record { 0 = d } in
      let one : Event → List ℕ → ℕ = λ event text. 1 in
      let sized : (event : Event) (text : List ℕ) → size (said_as event text) ≡ of_said one event text = λ event text. one_if (event.handler == 1) (event.arg, text) in
      let posted = sents_many said_as (of_said one) sized c (map sent_as (said 0 script)) in
      from_posts said_as c low (picked_many said_as (of_said one) sized (kept.received c) ∙ client_says one d low ∙ sym posted) ∙ posted_lines d 0 script

  -- and the room is told them in that order
  room_lines : (d : ℕ) → 0 < d → d < CLIENTS + 1 → filter_map (pick (told_as script d)) (kept.received room) ≡ lines_of d 0 script
  room_lines d some low =
      let c : Colour = record { 0 = d } in
      from_sender (told_as script d) room c (lines_of d 0 script) (omega arith) low
      (client_passes script d c some 0 (kept.received c) (may c low) ∙ ap (filter_map (own_line script d)) (client_lines d low) ∙ own_lines script d)
      (picked_many (told_as script d) (told_one script d) (told_size script d) (kept.received room) ∙ room_told (told_one script d) ∙ many_lines script d)

  -- as many as there are
  all_lines : length (kept.received room) ≡ length script
  all_lines = let one : Event → List ℕ → ℕ = λ event text. 1 in sym (many_of (of_words one) (λ message. refl) (kept.received room)) ∙ room_told one ∙ all_told one (λ event text. refl) 0 script

  -- and keeps them
  kept_lines : (d : ℕ) (seat : Seat) → 0 < d → d ≤ CLIENTS → slice_get seats 0 ≡ Some seat → filter_map (said_by script d) (map note_of seat.heard.items) ≡ lines_of d 0 script
  kept_lines d seat some high there =
      ap (filter_map (said_by script d)) (keeps room (kept.received room) (kept.sent room) seat (kept.kept room seat there)).noted
      ∙ room_keeps script d 0 (kept.received room) (may room (omega arith)) (let many = all_lines in omega (arith, many, few)) ∙ room_lines d some (omega (arith, high))

  -- each client keeps what the room does
  in_order : (c : Colour) (seat own : Seat) → 0 < c.0 → slice_get seats c.0 ≡ Some seat → slice_get seats 0 ≡ Some own → map note_of seat.heard.items ≡ map note_of own.heard.items
  in_order c seat own some there first =
      let low : c.0 < CLIENTS + 1 = (let many = kept.many in let within = slice_get_within seats c.0 seat there in omega (arith, many, within, colours)) in
      let one : Event → List ℕ → ℕ = λ event text. 1 in
      let sized : (event : Event) (text : List ℕ) → size (heard_as event text) ≡ of_heard one event text = λ event text. one_if (event.handler == 3) (event.arg / 256, event.arg % 256, text) in
      let notes_of = along notes 0 (kept.received room) in
      (keeps c (kept.received c) (kept.sent c) seat (kept.kept c seat there)).noted ∙ client_keeps script few c some 0 (kept.received c) (may c low)
      ∙ from_sender heard_as c room notes_of low (omega arith) (room_sends script few c some (omega (arith, low)) 0 (kept.received room) (may room (omega arith)))
      (picked_many heard_as (of_heard one) sized (kept.received c) ∙ each_heard one c some (omega (arith, low)) ∙ many_of (as_heard one) (λ note. refl) notes_of)
      ∙ sym (keeps room (kept.received room) (kept.sent room) own (kept.kept room own first)).noted

  pub are_talked : IsTalked script seats
  are_talked = record {
    many = kept.many ∙ colours;
    received = kept.received;
    sent = kept.sent;
    of_script = may;
    seat = λ c seat there. keeps c (kept.received c) (kept.sent c) seat (kept.kept c seat there);
    told = all_lines;
    by_client = kept_lines;
    heard = in_order;
  }
