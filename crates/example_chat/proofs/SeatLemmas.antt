-- One message more for the room or a client, and the lines that are posted.
use Rattle.std.proofs.Common.{◌≡◌, ◌≤◌, ◌<◌, ◌+◌, ◌*◌, ℕ, Bool, List, [], ◌∷◌, ◌++◌, Some, if◌then◌else◌, length, map, refl, sym, ◌∙◌, ap, arith, append_assoc}
use Rattle.std.proofs.lemmas.Bool.{le-ltb, lt-ltb}
use Rattle.std.proofs.lemmas.List.{append-nil, map-append}
use Rattle.std.specs.List.{AllByRecursion}
use Rattle.std.specs.Global.{Global}
use Rattle.std.specs.Prelude.{Result, Ok, Err, OnOk, Vec, slice_get}
use Rattle.mely_event.specs.declared.colour.Colour.{Colour}
use Rattle.mely_weave.proofs.Wholes.DealLemmas.{seam_at}
use Rattle.mely_actor.proofs.ListLemmas.{one_longer}
use Rattle.mely_actor.specs.Sending.{MaySend}
use Rattle.example_chat.specs.declared.message.Message.{Message}
use Rattle.example_chat.specs.declared.message.Message.TheVariants.{Say, Line}
use Rattle.example_chat.specs.declared.script.Line.{Line as ScriptLine}
use Rattle.example_chat.specs.declared.seat.Heard.{Heard}
use Rattle.example_chat.specs.declared.chat.TheConstants.{CLIENTS}
use Rattle.example_chat.specs.Chats.{IsByClient, IsSeat, MayHear, Note, along, event_of, note_of, notes, said, says, sent_as, to_clients}

-- one more gives what it gives behind all others
along_push : {X Y : Type 0} (f : ℕ → X → List Y) (before : ℕ) (xs : List X) (x : X) → along f before (xs ++ x ∷ []) ≡ along f before xs ++ f (before + length xs) x
along_push f before [] x = append-nil (f before x) ∙ ap (λ n. f n x) (let none : before ≡ before + 0 = omega arith in none)
along_push f before (y ∷ xs) x =
    let at : before + 1 + length xs ≡ before + length (y ∷ xs) = omega arith in
    ap (λ l. f before y ++ l) (along_push f (before + 1) xs x ∙ ap (λ n. along f (before + 1) xs ++ f n x) at)
    ∙ sym (append_assoc (f before y) (along f (before + 1) xs) (f (before + length (y ∷ xs)) x))

-- a message more
pub seat_more : (received : List Message) (sent new : List (Colour × Message)) (heard after : List Heard) (message : Message) (before : ℕ) → length received ≡ before → map sent_as new ≡ says before message → map note_of after ≡ map note_of heard ++ notes before message → IsSeat received sent heard
    → IsSeat (received ++ message ∷ []) (sent ++ new) after
seat_more received sent new heard after message before many sends keeps seat =
    let at : 0 + length received ≡ before = omega (arith, many) in
    record {
      passed = map-append sent_as sent new ∙ ap (λ l. l ++ map sent_as new) seat.passed ∙ ap (λ l. along says 0 received ++ l) (sends ∙ ap (λ n. says n message) (sym at)) ∙ sym (along_push says 0 received message);
      noted = keeps ∙ ap (λ l. l ++ notes before message) seat.noted ∙ ap (λ n. along notes 0 received ++ notes n message) (sym at) ∙ sym (along_push notes 0 received message);
    }

-- nothing is kept of a message
pub none_more : (kept : List Note) → kept ≡ kept ++ []
none_more kept = sym (append-nil kept)

-- the same on an answer
pub seat_kept : {A E : Type 0} (answer : Result A E) (new : List (Colour × Message)) (heard after : List Heard) (message : Message) (before : ℕ) → map sent_as new ≡ says before message → OnOk answer (map note_of after ≡ map note_of heard ++ notes before message)
    → OnOk answer ((received : List Message) (sent : List (Colour × Message)) → length received ≡ before → IsSeat received sent heard → IsSeat (received ++ message ∷ []) (sent ++ new) after)
seat_kept (Ok a) new heard after message before sends keeps = λ received sent many seat. seat_more received sent new heard after message before many sends keeps seat
seat_kept (Err e) new heard after message before sends keeps = tt

-- what is so is so on an answer
pub on_ok : {A E P : Type 0} (answer : Result A E) → P → OnOk answer P
on_ok (Ok a) is = is
on_ok (Err e) is = tt

-- one line more has the next number
pub said_push : (number : ℕ) (lines : List ScriptLine) (line : ScriptLine) → said number (lines ++ line ∷ []) ≡ said number lines ++ (record { 0 = line.client }, Say (number + length lines) line.text) ∷ []
said_push number [] line = ap (λ (n : ℕ). (record { 0 = line.client }, Say n line.text) ∷ []) (let none : number ≡ number + 0 = omega arith in none)
said_push number (first ∷ lines) line =
    let here : number + 1 + length lines ≡ number + length (first ∷ lines) = omega arith in
    ap (λ (l : List (Colour × Message)). (record { 0 = first.client }, Say number first.text) ∷ l) (said_push (number + 1) lines line ∙ ap (λ (n : ℕ). said (number + 1) lines ++ (record { 0 = line.client }, Say n line.text) ∷ []) here)

module _ (script : List ScriptLine) where
  -- each may be sent to its client
  may_from : (front lines : List ScriptLine) (number : ℕ) → front ++ lines ≡ script → number ≡ length front → AllByRecursion IsByClient lines → AllByRecursion (MaySend (CLIENTS + 1) 4 event_of (MayHear script)) (said number lines)
  may_from front [] number split at by = tt
  may_from front (line ∷ lines) number split at by =
      let is : slice_get script number ≡ Some line = ap (slice_get script) at ∙ ap (λ l. slice_get l (length front)) (sym split) ∙ seam_at front line lines in
      let more = one_longer front line in
      let high : line.client ≤ CLIENTS = by.0.1 in (
        record { there = omega (arith, high); own = omega arith; row = omega arith; is_sound = (by.0.0, record { line = line; there = is; says = refl }) },
        may_from (front ++ line ∷ []) lines (number + 1) (append_assoc front (line ∷ []) lines ∙ split) (omega (arith, at, more)) by.1,
      )

  pub may_say : AllByRecursion IsByClient script → AllByRecursion (MaySend (CLIENTS + 1) 4 event_of (MayHear script)) (said 0 script)
  may_say by = may_from [] script 0 refl refl by

-- a line that comes behind 256 others goes nowhere
pub late_sent : (before k : ℕ) (text : Vec ℕ Global) → 256 ≤ before → [] ≡ says before (Line k text)
late_sent before k text late = sym (ap (λ (b : Bool). if b then to_clients (record { handler = 3; arg = before * 256 + k }) text.items else []) (le-ltb before 256 late))

pub late_noted : (before k : ℕ) (text : Vec ℕ Global) → 256 ≤ before → [] ≡ notes before (Line k text)
late_noted before k text late = sym (ap (λ (b : Bool). if b then (before, k, text.items) ∷ [] else []) (le-ltb before 256 late))

pub line_sent : (before k : ℕ) (text : Vec ℕ Global) → before < 256 → to_clients (record { handler = 3; arg = before * 256 + k }) text.items ≡ says before (Line k text)
line_sent before k text low = sym (ap (λ (b : Bool). if b then to_clients (record { handler = 3; arg = before * 256 + k }) text.items else []) (lt-ltb before 256 low))

pub line_noted : (before k : ℕ) (text : Vec ℕ Global) → before < 256 → (before, k, text.items) ∷ [] ≡ notes before (Line k text)
line_noted before k text low = sym (ap (λ (b : Bool). if b then (before, k, text.items) ∷ [] else []) (lt-ltb before 256 low))
