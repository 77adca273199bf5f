-- The room is told each line of the script once.
use Rattle.std.proofs.Common.{◌≡◌, ◌≢◌, ◌≤◌, ◌<◌, ◌+◌, ◌*◌, ◌==◌, ℕ, zero, suc, Bool, true, false, List, [], ◌∷◌, ◌++◌, nat_lt, if◌then◌else◌, map, refl, ◌∙◌, ap, arith, ne_eqb}
use Rattle.std.specs.Global.{Global}
use Rattle.std.proofs.lemmas.List.Sums.{sum_by-append, sum_by-cons}
use Rattle.std.specs.List.{AllByRecursion}
use Rattle.std.specs.Prelude.{Vec, sum_by}
use Rattle.mely_event.specs.declared.colour.Colour.{Colour}
use Rattle.mely_event.specs.declared.event.Event.{Event}
use Rattle.mely_actor.specs.Sending.{count_to}
use Rattle.example_chat.specs.declared.message.Message.{Message}
use Rattle.example_chat.specs.declared.message.Message.TheVariants.{Say, Line, Hear}
use Rattle.example_chat.specs.declared.script.Line.{Line as ScriptLine}
use Rattle.example_chat.specs.declared.chat.TheConstants.{CLIENTS}
use Rattle.example_chat.specs.Chats.{IsByClient, MayHear, Sent, along, event_of, room, said, says, sent_as, text_of, to_clients}

-- a number of a message, by its event and its text
abbrev pub of_words : (Event → List ℕ → ℕ) → Message → ℕ
of_words number message = number (event_of message) (text_of message)

-- the number of a script's lines, as the room is told them, from a line's number on
abbrev pub as_told : (Event → List ℕ → ℕ) → ℕ → List ScriptLine → ℕ
as_told number k [] = 0
as_told number k (line ∷ lines) = number (record { handler = 2; arg = k }) line.text.items + as_told number (k + 1) lines

-- a number of what a client is to say alone, that of the line that the room is told
abbrev pub of_said : (Event → List ℕ → ℕ) → Event → List ℕ → ℕ
of_said number event text = if event.handler == 1 then number (record { handler = 2; arg = event.arg }) text else 0

-- one of four
one_of_four : (n x : ℕ) → 0 < n → n ≤ CLIENTS → (if 1 == n then x else 0) + (if 2 == n then x else 0) + (if 3 == n then x else 0) + (if 4 == n then x else 0) ≡ x
one_of_four zero x some low = absurd (omega (arith, some))
one_of_four (suc zero) x some low = omega arith
one_of_four (suc (suc zero)) x some low = omega arith
one_of_four (suc (suc (suc zero))) x some low = omega arith
one_of_four (suc (suc (suc (suc zero)))) x some low = omega arith
one_of_four (suc (suc (suc (suc (suc n))))) x some low = absurd (omega (arith, low))

-- what the messages received have a colour send, so many others before them
abbrev pub sent_by : ℕ → List Message → List Sent
sent_by before received = along says before received

module _ (c : Colour) (f : Event → List ℕ → ℕ) where
  -- the numbers of what is sent to the colour
  abbrev pub to_it : List Sent → ℕ
  to_it sends = sum_by (λ (s : Sent). if s.0.0 == c.0 then f s.1 s.2 else 0) sends

  to_append : (sends more : List Sent) → to_it (sends ++ more) ≡ to_it sends + to_it more
  to_append sends more = sum_by-append (λ (s : Sent). if s.0.0 == c.0 then f s.1 s.2 else 0) sends more

  -- messages count by what they say
  pub counts_words : (sends : List (Colour × Message)) → count_to c (of_words f) sends ≡ to_it (map sent_as sends)
  counts_words [] = refl
  counts_words (send ∷ sends) =
      let rest = counts_words sends in
      let one = sum_by-cons (λ (s : Colour × Message). if s.0.0 == c.0 then of_words f s.1 else 0) send sends in
      let other = sum_by-cons (λ (s : Sent). if s.0.0 == c.0 then f s.1 s.2 else 0) (sent_as send) (map sent_as sends) in
      omega (arith, rest, one, other)

  pub to_cons : (to : Colour) (event : Event) (text : List ℕ) (sends : List Sent) → to_it ((to, event, text) ∷ sends) ≡ (if to.0 == c.0 then f event text else 0) + to_it sends
  to_cons to event text sends = sum_by-cons (λ (s : Sent). if s.0.0 == c.0 then f s.1 s.2 else 0) (to, event, text) sends

  pub to_other : (to : Colour) (event : Event) (text : List ℕ) (sends : List Sent) → to.0 ≢ c.0 → to_it ((to, event, text) ∷ sends) ≡ to_it sends
  to_other to event text sends apart =
      let one = to_cons to event text sends in
      let none : (if to.0 == c.0 then f event text else 0) ≡ 0 = ap (λ (b : Bool). if b then f event text else 0) (ne_eqb to.0 c.0 apart) in
      omega (arith, one, none)

  pub to_none : (to : Colour) (event : Event) (text : List ℕ) (sends : List Sent) → f event text ≡ 0 → to_it ((to, event, text) ∷ sends) ≡ to_it sends
  to_none to event text sends nothing =
      let one = to_cons to event text sends in
      let none : (if to.0 == c.0 then f event text else 0) ≡ 0 = ap (λ (n : ℕ). if to.0 == c.0 then n else 0) nothing ∙ with_one (to.0 == c.0) in
      omega (arith, one, none)
    where
      with_one : (b : Bool) → (if b then 0 else 0) ≡ (let nothing : ℕ = 0 in nothing)
      with_one true = refl
      with_one false = refl

  -- what goes to each client
  abbrev fourth_on : Event → List ℕ → List Sent
  fourth_on event text = (record { 0 = 4 }, event, text) ∷ []

  abbrev third_on : Event → List ℕ → List Sent
  third_on event text = (record { 0 = 3 }, event, text) ∷ fourth_on event text

  abbrev second_on : Event → List ℕ → List Sent
  second_on event text = (record { 0 = 2 }, event, text) ∷ third_on event text

  pub clients_each : (event : Event) (text : List ℕ) → 0 < c.0 → c.0 ≤ CLIENTS → to_it (to_clients event text) ≡ f event text
  clients_each event text some low =
      let first = to_cons (record { 0 = 1 }) event text (second_on event text) in
      let second = to_cons (record { 0 = 2 }) event text (third_on event text) in
      let third = to_cons (record { 0 = 3 }) event text (fourth_on event text) in
      let fourth = to_cons (record { 0 = 4 }) event text [] in
      let one = one_of_four c.0 (f event text) some low in
      let all : to_it ((record { 0 = 1 }, event, text) ∷ second_on event text) ≡ f event text = omega (arith, first, second, third, fourth, one) in
      all

  pub clients_room : (event : Event) (text : List ℕ) → c.0 ≡ 0 → to_it (to_clients event text) ≡ 0
  clients_room event text is =
      to_other (record { 0 = 1 }) event text (second_on event text) (λ e. omega (arith, e, is)) ∙ to_other (record { 0 = 2 }) event text (third_on event text) (λ e. omega (arith, e, is))
      ∙ to_other (record { 0 = 3 }) event text (fourth_on event text) (λ e. omega (arith, e, is)) ∙ to_other (record { 0 = 4 }) event text [] (λ e. omega (arith, e, is))

  pub clients_none : (event : Event) (text : List ℕ) → f event text ≡ 0 → to_it (to_clients event text) ≡ 0
  clients_none event text none =
      to_none (record { 0 = 1 }) event text (second_on event text) none ∙ to_none (record { 0 = 2 }) event text (third_on event text) none
      ∙ to_none (record { 0 = 3 }) event text (fourth_on event text) none ∙ to_none (record { 0 = 4 }) event text [] none

  -- one message more
  pub sent_step : (before : ℕ) (message : Message) (more : List Message) → to_it (sent_by before (message ∷ more)) ≡ to_it (says before message) + to_it (sent_by (before + 1) more)
  sent_step before message more = to_append (says before message) (sent_by (before + 1) more)

  -- a line of which nothing is counted
  pub line_none : (before k : ℕ) (text : Vec ℕ Global) → to_it (to_clients (record { handler = 3; arg = before * 256 + k }) text.items) ≡ 0 → to_it (says before (Line k text)) ≡ 0
  line_none before k text none = with_one (nat_lt before 256)
    where
      with_one : (b : Bool) → to_it (if b then to_clients (record { handler = 3; arg = before * 256 + k }) text.items else []) ≡ 0
      with_one true = none
      with_one false = refl

module _ (script : List ScriptLine) (number : Event → List ℕ → ℕ) where
  -- ---- what the room is told

  pub posted_elsewhere : (k : ℕ) (lines : List ScriptLine) → AllByRecursion IsByClient lines → to_it room number (map sent_as (said k lines)) ≡ 0
  posted_elsewhere k [] by = refl
  posted_elsewhere k (line ∷ lines) by =
      let some : 0 < line.client = by.0.0 in
      to_other room number (record { 0 = line.client }) (record { handler = 1; arg = k }) line.text.items (map sent_as (said (k + 1) lines)) (λ e. omega (arith, e, some)) ∙ posted_elsewhere (k + 1) lines by.1

  pub room_elsewhere : (before : ℕ) (received : List Message) → AllByRecursion (MayHear script room) received → to_it room number (sent_by before received) ≡ 0
  room_elsewhere before [] may = refl
  room_elsewhere before (Say k text ∷ more) may = absurd (let low = may.0.0 in omega (arith, low))
  room_elsewhere before (Hear p k text ∷ more) may = absurd (let low = may.0.0 in omega (arith, low))
  room_elsewhere before (Line k text ∷ more) may =
      let rest = room_elsewhere (before + 1) more may.1 in
      let step = sent_step room number before (Line k text) more in
      let one = line_none room number before k text (clients_room room number (record { handler = 3; arg = before * 256 + k }) text.items refl) in
      omega (arith, rest, step, one)

  pub client_tells : (d : Colour) → 0 < d.0 → (before : ℕ) (received : List Message) → AllByRecursion (MayHear script d) received → to_it room number (sent_by before received) ≡ sum_by (of_words (of_said number)) received
  client_tells d low before [] may = refl
  client_tells d low before (Line k text ∷ more) may = absurd (let is = may.0.0 in omega (arith, is, low))
  client_tells d low before (Say k text ∷ more) may =
      let rest = client_tells d low (before + 1) more may.1 in
      let step : to_it room number (sent_by before (Say k text ∷ more)) ≡ number (record { handler = 2; arg = k }) text.items + to_it room number (sent_by (before + 1) more) = to_cons room number room (record { handler = 2; arg = k }) text.items (sent_by (before + 1) more) in
      let all : sum_by (of_words (of_said number)) (Say k text ∷ more) ≡ number (record { handler = 2; arg = k }) text.items + sum_by (of_words (of_said number)) more = sum_by-cons (of_words (of_said number)) (Say k text) more in
      omega (arith, rest, step, all)
  client_tells d low before (Hear p k text ∷ more) may =
      let rest : to_it room number (sent_by before (Hear p k text ∷ more)) ≡ sum_by (of_words (of_said number)) more = client_tells d low (before + 1) more may.1 in
      let all : sum_by (of_words (of_said number)) (Hear p k text ∷ more) ≡ 0 + sum_by (of_words (of_said number)) more = sum_by-cons (of_words (of_said number)) (Hear p k text) more in
      omega (arith, rest, all)

  -- ---- what a client is to say

  -- nobody but who posts has a client say a line
  pub none_says : (c : Colour) (before : ℕ) (received : List Message) → to_it c (of_said number) (sent_by before received) ≡ 0
  none_says c before [] = refl
  none_says c before (Say k text ∷ more) = to_none c (of_said number) room (record { handler = 2; arg = k }) text.items (sent_by (before + 1) more) refl ∙ none_says c (before + 1) more
  none_says c before (Line k text ∷ more) =
      let rest = none_says c (before + 1) more in
      let step = sent_step c (of_said number) before (Line k text) more in
      let one = line_none c (of_said number) before k text (clients_none c (of_said number) (record { handler = 3; arg = before * 256 + k }) text.items refl) in
      omega (arith, rest, step, one)
  none_says c before (Hear p k text ∷ more) = none_says c (before + 1) more

  -- ---- of each line by its client

  abbrev pub posted_to : ℕ → ℕ → List ScriptLine → ℕ
  posted_to c k lines = to_it (record { 0 = c }) (of_said number) (map sent_as (said k lines))

  posted_cons : (c k : ℕ) (line : ScriptLine) (lines : List ScriptLine) → posted_to c k (line ∷ lines) ≡ (if line.client == c then number (record { handler = 2; arg = k }) line.text.items else 0) + posted_to c (k + 1) lines
  posted_cons c k line lines = to_cons (record { 0 = c }) (of_said number) (record { 0 = line.client }) (record { handler = 1; arg = k }) line.text.items (map sent_as (said (k + 1) lines))

  one_client : (n x : ℕ) → 0 < n → n ≤ CLIENTS → (if n == 1 then x else 0) + (if n == 2 then x else 0) + (if n == 3 then x else 0) + (if n == 4 then x else 0) ≡ x
  one_client zero x some low = absurd (omega (arith, some))
  one_client (suc zero) x some low = omega arith
  one_client (suc (suc zero)) x some low = omega arith
  one_client (suc (suc (suc zero))) x some low = omega arith
  one_client (suc (suc (suc (suc zero)))) x some low = omega arith
  one_client (suc (suc (suc (suc (suc n))))) x some low = absurd (omega (arith, low))

  pub posted_all : (k : ℕ) (lines : List ScriptLine) → AllByRecursion IsByClient lines → posted_to 1 k lines + posted_to 2 k lines + posted_to 3 k lines + posted_to 4 k lines ≡ as_told number k lines
  posted_all k [] by = refl
  posted_all k (line ∷ lines) by =
      let rest = posted_all (k + 1) lines by.1 in
      let first = posted_cons 1 k line lines in
      let second = posted_cons 2 k line lines in
      let third = posted_cons 3 k line lines in
      let fourth = posted_cons 4 k line lines in
      let one = one_client line.client (number (record { handler = 2; arg = k }) line.text.items) by.0.0 by.0.1 in
      omega (arith, rest, first, second, third, fourth, one)
