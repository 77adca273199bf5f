-- In what order a colour received what others sent it, of messages of a kind that one alone sends.
use Rattle.std.proofs.Common.{◌≡◌, ◌<◌, ◌≤◌, ◌+◌, ◌*◌, ◌/◌, ◌%◌, ◌==◌, ℕ, zero, suc, Bool, true, false, List, [], ◌∷◌, ◌++◌, Option, Some, None, nat_lt, if◌then◌else◌, length, map, refl, sym, ◌∙◌, ap, arith, append_assoc}
use Rattle.std.proofs.lemmas.Bool.{lt-ltb}
use Rattle.std.proofs.lemmas.List.Elements.{filter_map-append}
use Rattle.std.proofs.lemmas.List.Sums.{sum_by-cons}
use Rattle.std.proofs.lemmas.Option.{slice_get_within}
use Rattle.std.specs.List.{AllByRecursion, cons_option}
use Rattle.std.specs.Prelude.{filter_map, slice_get, sum_by}
use Rattle.mely_event.specs.declared.colour.Colour.{Colour}
use Rattle.mely_event.specs.declared.event.Event.{Event}
use Rattle.mely_weave.proofs.Wholes.DealLemmas.{seam_at}
use Rattle.mely_actor.proofs.ListLemmas.{one_longer}
use Rattle.mely_actor.specs.Sending.{sends_to, sent_by}
use Rattle.example_chat.specs.declared.message.Message.{Message}
use Rattle.example_chat.specs.declared.message.Message.TheVariants.{Say, Line, Hear}
use Rattle.example_chat.specs.declared.script.Line.{Line as ScriptLine}
use Rattle.example_chat.specs.declared.chat.TheConstants.{CLIENTS}
use Rattle.example_chat.specs.Chats.{IsOfScript, MayHear, Note, Sent, along, event_of, notes, room, said, says, sent_as, text_of, to_clients}
use Rattle.example_chat.specs.Talked.{is_said, lines_of, said_by}
use Rattle.example_chat.proofs.ToldLemmas.{as_told, of_words, to_it}

-- ---- messages of a kind

abbrev pub size : {Y : Type 0} → Option Y → ℕ
size None = 0
size (Some y) = 1

more : {Y : Type 0} (o : Option Y) (ys : List Y) → length (cons_option o ys) ≡ size o + length ys
more None ys = omega arith
more (Some y) ys = omega arith

none_of : {Y : Type 0} (o : Option Y) (ys : List Y) → size o ≡ 0 → ys ≡ cons_option o ys
none_of None ys none = refl
none_of (Some y) ys none = absurd (omega (arith, none))

-- where as many of a kind have such senders as there are of it, all of it has, in that order
module _ {M Y : Type 0} (test : Option Colour → Bool) (f : M → Option Y) where
  fewer : (senders : List (Option Colour)) (messages : List M) → length (filter_map f (sent_by test senders messages)) ≤ length (filter_map f messages)
  fewer [] messages = omega arith
  fewer (sender ∷ senders) [] = omega arith
  fewer (sender ∷ senders) (message ∷ messages) = for (test sender) (fewer senders messages) where
    for : (b : Bool) → length (filter_map f (sent_by test senders messages)) ≤ length (filter_map f messages) → length (filter_map f (if b then message ∷ sent_by test senders messages else sent_by test senders messages)) ≤ length (cons_option (f message) (filter_map f messages))
    for true rest = let some = more (f message) (filter_map f (sent_by test senders messages)) in let all = more (f message) (filter_map f messages) in omega (arith, rest, some, all)
    for false rest = let all = more (f message) (filter_map f messages) in omega (arith, rest, all)

  all_by : (senders : List (Option Colour)) (messages : List M) → length senders ≡ length messages → length (filter_map f (sent_by test senders messages)) ≡ length (filter_map f messages) → filter_map f (sent_by test senders messages) ≡ filter_map f messages
  all_by [] [] same many = refl
  all_by [] (message ∷ messages) same many = absurd (omega (arith, same))
  all_by (sender ∷ senders) [] same many = refl
  all_by (sender ∷ senders) (message ∷ messages) same many = for (test sender) many (all_by senders messages (omega (arith, same))) where
    all : length (cons_option (f message) (filter_map f messages)) ≡ size (f message) + length (filter_map f messages)
    all = more (f message) (filter_map f messages)

    for : (b : Bool) → length (filter_map f (if b then message ∷ sent_by test senders messages else sent_by test senders messages)) ≡ length (cons_option (f message) (filter_map f messages)) → (length (filter_map f (sent_by test senders messages)) ≡ length (filter_map f messages) → filter_map f (sent_by test senders messages) ≡ filter_map f messages)
        → filter_map f (if b then message ∷ sent_by test senders messages else sent_by test senders messages) ≡ cons_option (f message) (filter_map f messages)
    for true is rest = ap (cons_option (f message)) (rest (let some = more (f message) (filter_map f (sent_by test senders messages)) in let whole = all in omega (arith, is, some, whole)))
    for false is rest =
        let few = fewer senders messages in
        let whole = all in
        rest (omega (arith, is, few, whole)) ∙ none_of (f message) (filter_map f messages) (omega (arith, is, few, whole))

  pub all_from : (senders : List (Option Colour)) (messages sends : List M) → length senders ≡ length messages → sent_by test senders messages ≡ sends → length (filter_map f messages) ≡ length (filter_map f sends) → filter_map f messages ≡ filter_map f sends
  all_from senders messages sends same are many = sym (all_by senders messages same (ap (λ l. length (filter_map f l)) are ∙ sym many)) ∙ ap (filter_map f) are

-- ---- by what they say

-- what a message gives, by its event and its text
abbrev pub pick : {Y : Type 0} → (Event → List ℕ → Option Y) → Message → Option Y
pick f message = f (event_of message) (text_of message)

-- what all that is sent to a colour gives
abbrev pub picks : {Y : Type 0} → Colour → (Event → List ℕ → Option Y) → List Sent → List Y
picks c f sends = filter_map (λ (s : Sent). if s.0.0 == c.0 then f s.1 s.2 else None) sends

pub many_of : {X : Type 0} (number : X → ℕ) → ((x : X) → number x ≡ 1) → (xs : List X) → sum_by number xs ≡ length xs
many_of number ones [] = refl
many_of number ones (x ∷ xs) = let rest = many_of number ones xs in let all = sum_by-cons number x xs in let one = ones x in omega (arith, rest, all, one)

module _ {Y : Type 0} (f : Event → List ℕ → Option Y) where
  pub picked_sends : (c : Colour) (sends : List (Colour × Message)) → filter_map (pick f) (sends_to c sends) ≡ picks c f (map sent_as sends)
  picked_sends c [] = refl
  picked_sends c (send ∷ sends) = for (send.0.0 == c.0) (picked_sends c sends) where
    for : (b : Bool) → filter_map (pick f) (sends_to c sends) ≡ picks c f (map sent_as sends) → filter_map (pick f) (cons_option (if b then Some send.1 else None) (sends_to c sends)) ≡ cons_option (if b then f (event_of send.1) (text_of send.1) else None) (picks c f (map sent_as sends))
    for true rest = ap (cons_option (f (event_of send.1) (text_of send.1))) rest
    for false rest = rest

  pub picked_many : (number : Event → List ℕ → ℕ) → ((event : Event) (text : List ℕ) → size (f event text) ≡ number event text) → (messages : List Message) → length (filter_map (pick f) messages) ≡ sum_by (of_words number) messages
  picked_many number sized [] = refl
  picked_many number sized (message ∷ messages) =
      let rest = picked_many number sized messages in
      let all = more (pick f message) (filter_map (pick f) messages) in
      let one = sized (event_of message) (text_of message) in
      let those = sum_by-cons (of_words number) message messages in
      omega (arith, rest, all, one, those)

  pub sents_many : (number : Event → List ℕ → ℕ) → ((event : Event) (text : List ℕ) → size (f event text) ≡ number event text) → (c : Colour) (sends : List Sent) → length (picks c f sends) ≡ to_it c number sends
  sents_many number sized c [] = refl
  sents_many number sized c (send ∷ sends) =
      let rest = sents_many number sized c sends in
      let all = more (if send.0.0 == c.0 then f send.1 send.2 else None) (picks c f sends) in
      let those = sum_by-cons (λ (s : Sent). if s.0.0 == c.0 then number s.1 s.2 else 0) send sends in
      let one = for (send.0.0 == c.0) in
      omega (arith, rest, all, those, one)
    where
      for : (b : Bool) → size (if b then f send.1 send.2 else None) ≡ (if b then number send.1 send.2 else 0)
      for true = sized send.1 send.2
      for false = refl

  -- each client is sent it once
  to_one : (n : ℕ) (event : Event) (text : List ℕ) → 0 < n → n ≤ CLIENTS → picks (record { 0 = n }) f (to_clients event text) ≡ cons_option (f event text) []
  to_one zero event text some low = absurd (omega (arith, some))
  to_one (suc zero) event text some low = refl
  to_one (suc (suc zero)) event text some low = refl
  to_one (suc (suc (suc zero))) event text some low = refl
  to_one (suc (suc (suc (suc zero)))) event text some low = refl
  to_one (suc (suc (suc (suc (suc n))))) event text some low = absurd (omega (arith, low))

-- ---- what is heard

abbrev pub heard_as : Event → List ℕ → Option Note
heard_as event text = if event.handler == 3 then Some (event.arg / 256, event.arg % 256, text) else None

two_parts : (place number : ℕ) (text : List ℕ) → number < 256 → heard_as (record { handler = 3; arg = place * 256 + number }) text ≡ Some (place, number, text)
two_parts place number text low =
    let high : (place * 256 + number) / 256 ≡ place = omega (arith, low) in
    let rest : (place * 256 + number) % 256 ≡ number = omega (arith, low) in
    ap (λ p. Some (p, (place * 256 + number) % 256, text)) high ∙ ap (λ n. Some (place, n, text)) rest

module _ (script : List ScriptLine) (few : length script ≤ 256) where
  low_number : (number : ℕ) (text : List ℕ) → IsOfScript script number text → number < 256
  low_number number text is = let low = slice_get_within script number is.line is.there in omega (arith, low, few)

  -- a client keeps what it hears
  pub client_keeps : (c : Colour) → 0 < c.0 → (before : ℕ) (received : List Message) → AllByRecursion (MayHear script c) received → along notes before received ≡ filter_map (pick heard_as) received
  client_keeps c some before [] may = refl
  client_keeps c some before (Say k text ∷ received) may = client_keeps c some (before + 1) received may.1
  client_keeps c some before (Line k text ∷ received) may = absurd (let is = may.0.0 in omega (arith, is, some))
  client_keeps c some before (Hear p k text ∷ received) may =
      ap (λ l. (p, k, text.items) ∷ l) (client_keeps c some (before + 1) received may.1) ∙ ap (λ o. cons_option o (filter_map (pick heard_as) received)) (sym (two_parts p k text.items (low_number k text.items may.0.1)))

  -- the room sends each client what it keeps, in its order
  pub room_sends : (c : Colour) → 0 < c.0 → c.0 ≤ CLIENTS → (before : ℕ) (received : List Message) → AllByRecursion (MayHear script room) received → picks c heard_as (along says before received) ≡ along notes before received
  room_sends c some high before [] may = refl
  room_sends c some high before (Say k text ∷ received) may = absurd (let low = may.0.0 in omega (arith, low))
  room_sends c some high before (Hear p k text ∷ received) may = absurd (let low = may.0.0 in omega (arith, low))
  room_sends c some high before (Line k text ∷ received) may =
      filter_map-append (λ (s : Sent). if s.0.0 == c.0 then heard_as s.1 s.2 else None) (says before (Line k text)) (along says (before + 1) received)
      ∙ ap (λ l. picks c heard_as (says before (Line k text)) ++ l) (room_sends c some high (before + 1) received may.1) ∙ ap (λ l. l ++ along notes (before + 1) received) (with_one (nat_lt before 256))
    where
      with_one : (b : Bool) → picks c heard_as (if b then to_clients (record { handler = 3; arg = before * 256 + k }) text.items else []) ≡ (if b then (before, k, text.items) ∷ [] else [])
      with_one true = to_one heard_as c.0 (record { handler = 3; arg = before * 256 + k }) text.items some high ∙ ap (λ o. cons_option o []) (two_parts before k text.items (low_number k text.items may.0.1))
      with_one false = refl

-- ---- what a client says

abbrev pub said_as : Event → List ℕ → Option (ℕ × List ℕ)
said_as event text = if event.handler == 1 then Some (event.arg, text) else None

-- what is posted to a client are its lines
pub posted_lines : (client k : ℕ) (lines : List ScriptLine) → picks (record { 0 = client }) said_as (map sent_as (said k lines)) ≡ lines_of client k lines
posted_lines client k [] = refl
posted_lines client k (line ∷ lines) = for (line.client == client) (posted_lines client (k + 1) lines) where
  for : (b : Bool) → picks (record { 0 = client }) said_as (map sent_as (said (k + 1) lines)) ≡ lines_of client (k + 1) lines
      → cons_option (if b then Some (k, line.text.items) else None) (picks (record { 0 = client }) said_as (map sent_as (said (k + 1) lines))) ≡ (if b then (k, line.text.items) ∷ lines_of client (k + 1) lines else lines_of client (k + 1) lines)
  for true rest = ap (λ l. (k, line.text.items) ∷ l) rest
  for false rest = rest

module _ (script : List ScriptLine) (client : ℕ) where
  abbrev pub told_as : Event → List ℕ → Option (ℕ × List ℕ)
  told_as event text = if is_said client (slice_get script event.arg) then Some (event.arg, text) else None

  abbrev pub own_line : ℕ × List ℕ → Option (ℕ × List ℕ)
  own_line line = if is_said client (slice_get script line.0) then Some (line.0, line.1) else None

  -- a client tells the room what it is to say
  pub client_passes : (c : Colour) → 0 < c.0 → (before : ℕ) (received : List Message) → AllByRecursion (MayHear script c) received → picks room told_as (along says before received) ≡ filter_map own_line (filter_map (pick said_as) received)
  client_passes c some before [] may = refl
  client_passes c some before (Say k text ∷ received) may = ap (cons_option (own_line (k, text.items))) (client_passes c some (before + 1) received may.1)
  client_passes c some before (Line k text ∷ received) may = absurd (let is = may.0.0 in omega (arith, is, some))
  client_passes c some before (Hear p k text ∷ received) may = client_passes c some (before + 1) received may.1

  at_line : (front lines : List ScriptLine) (line : ScriptLine) (k : ℕ) → front ++ line ∷ lines ≡ script → k ≡ length front → slice_get script k ≡ Some line
  at_line front lines line k split at = ap (slice_get script) at ∙ ap (λ l. slice_get l (length front)) (sym split) ∙ seam_at front line lines

  -- its lines are its own
  own_from : (front lines : List ScriptLine) (k : ℕ) → front ++ lines ≡ script → k ≡ length front → filter_map own_line (lines_of client k lines) ≡ lines_of client k lines
  own_from front [] k split at = refl
  own_from front (line ∷ lines) k split at =
      let more = one_longer front line in
      for (line.client == client) (ap (is_said client) (at_line front lines line k split at)) (own_from (front ++ line ∷ []) lines (k + 1) (append_assoc front (line ∷ []) lines ∙ split) (omega (arith, at, more)))
    where
      for : (b : Bool) → is_said client (slice_get script k) ≡ b → filter_map own_line (lines_of client (k + 1) lines) ≡ lines_of client (k + 1) lines
          → filter_map own_line (if b then (k, line.text.items) ∷ lines_of client (k + 1) lines else lines_of client (k + 1) lines) ≡ (if b then (k, line.text.items) ∷ lines_of client (k + 1) lines else lines_of client (k + 1) lines)
      for true is rest = ap (λ b. cons_option (if b then Some (k, line.text.items) else None) (filter_map own_line (lines_of client (k + 1) lines))) is ∙ ap (λ l. (k, line.text.items) ∷ l) rest
      for false is rest = rest

  pub own_lines : filter_map own_line (lines_of client 0 script) ≡ lines_of client 0 script
  own_lines = own_from [] script 0 refl refl

  -- as many lines of its as the script has
  abbrev pub told_one : Event → List ℕ → ℕ
  told_one event text = if is_said client (slice_get script event.arg) then 1 else 0

  pub told_size : (event : Event) (text : List ℕ) → size (told_as event text) ≡ told_one event text
  told_size event text = for (is_said client (slice_get script event.arg)) where
    for : (b : Bool) → size {Y = ℕ × List ℕ} (if b then Some (event.arg, text) else None) ≡ (if b then 1 else 0)
    for true = refl
    for false = refl

  many_from : (front lines : List ScriptLine) (k : ℕ) → front ++ lines ≡ script → k ≡ length front → as_told told_one k lines ≡ length (lines_of client k lines)
  many_from front [] k split at = refl
  many_from front (line ∷ lines) k split at =
      let more = one_longer front line in
      let rest = many_from (front ++ line ∷ []) lines (k + 1) (append_assoc front (line ∷ []) lines ∙ split) (omega (arith, at, more)) in
      let one : told_one (record { handler = 2; arg = k }) line.text.items ≡ (if line.client == client then 1 else 0) = ap (λ b. if b then 1 else 0) (ap (is_said client) (at_line front lines line k split at)) in
      let all = for (line.client == client) in
      omega (arith, rest, one, all)
    where
      for : (b : Bool) → length (if b then (k, line.text.items) ∷ lines_of client (k + 1) lines else lines_of client (k + 1) lines) ≡ (if b then 1 else 0) + length (lines_of client (k + 1) lines)
      for true = omega arith
      for false = omega arith

  pub many_lines : as_told told_one 0 script ≡ length (lines_of client 0 script)
  many_lines = many_from [] script 0 refl refl

  -- of 256 messages and fewer the room keeps each line
  pub room_keeps : (before : ℕ) (received : List Message) → AllByRecursion (MayHear script room) received → before + length received ≤ 256 → filter_map (said_by script client) (along notes before received) ≡ filter_map (pick told_as) received
  room_keeps before [] may low = refl
  room_keeps before (Say k text ∷ received) may low = absurd (let none = may.0.0 in omega (arith, none))
  room_keeps before (Hear p k text ∷ received) may low = absurd (let none = may.0.0 in omega (arith, none))
  room_keeps before (Line k text ∷ received) may low =
      ap (λ (b : Bool). filter_map (said_by script client) ((if b then (before, k, text.items) ∷ [] else []) ++ along notes (before + 1) received)) (lt-ltb before 256 (omega (arith, low)))
      ∙ ap (cons_option (own_line (k, text.items))) (room_keeps (before + 1) received may.1 (omega (arith, low)))

-- the script has so many lines
pub all_told : (number : Event → List ℕ → ℕ) → ((event : Event) (text : List ℕ) → number event text ≡ 1) → (k : ℕ) (lines : List ScriptLine) → as_told number k lines ≡ length lines
all_told number ones k [] = refl
all_told number ones k (line ∷ lines) = let rest = all_told number ones (k + 1) lines in let one = ones (record { handler = 2; arg = k }) line.text.items in omega (arith, rest, one)
