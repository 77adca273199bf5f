-- A stream stays in order over each step.
use Rattle.std.proofs.Common.{◌≡◌, ◌≢◌, ℕ, ◌+◌, Bool, true, List, [], ◌∷◌, ◌++◌, Option, None, Some, Result, Ok, Err, length, refl, sym, ◌∙◌, ap, subst, arith, inl, inr, eq-eqb}
use Rattle.std.proofs.lemmas.Bool.{cases_eq, ne_eqb}
use Rattle.std.proofs.lemmas.List.{append-nil, append_assoc, length-append}
use Rattle.std.proofs.lemmas.List.Elements.{filter_map-append}
use Rattle.std.proofs.lemmas.Option.{same_Some}
use Rattle.std.specs.Prelude.{if◌then◌else◌}
use Rattle.std.specs.List.{cons_option}
use Rattle.mely_event.specs.declared.colour.Colour.{Colour}
use Rattle.mely_event.specs.declared.event.Event.{Event}
use Rattle.mely_event.specs.declared.trail.Trail.{Ghosts as TrailWords}
use Rattle.mely_event.specs.declared.unregistered.Unregistered.{Unregistered}
use Rattle.mely_history.specs.declared.registered.Registered.{Registered}
use Rattle.mely_worker.specs.declared.app.App.{Ghosts as AppWords}
use Rattle.mely_worker.specs.declared.made.Made.{Made}
use Rattle.mely_weave.specs.Weave.{WeaveState}
use Rattle.mely_tally.specs.Tallies.{Carried}
use Rattle.mely_order.specs.Rising.{Rises}
use Rattle.mely_order.specs.Seen.{Put, ColourSeen, seen, lost_in}
use Rattle.mely_order.specs.Steps.{Enters, IsKept, NothingSeen, RegistersFirst, RunsFirst, StepSeen}
use Rattle.mely_order.specs.Stream.{Stream, HandlerServes, ServesStream, numbers_of, number_put, numbers_put}
use Rattle.mely_order.specs.InOrder.{InOrder}
use Rattle.mely_order.proofs.RisingLemmas.{rises_append, rises_without}
use Rattle.mely_order.proofs.LaneLemmas.{colour_same}

append_none : {A : Type 0} (xs ys : List A) → xs ++ ys ≡ [] → (xs ≡ []) × (ys ≡ [])
append_none [] ys none = (refl, none)
append_none (x ∷ xs) ys none = cc

rises_as : (xs ys : List ℕ) (m n : ℕ) → ys ≡ xs → n ≡ m → Rises 0 xs m → Rises 0 ys n
rises_as xs ys m n lists tops rise = subst (λ (l : List ℕ). Rises 0 l n) (sym lists) (subst (λ (top : ℕ). Rises 0 xs top) (sym tops) rise)

module _ {S P : Type 0} (stream : Stream S P) where
  numbers_first : (event : Carried P) (rest : List (Carried P)) → numbers_of stream (event ∷ rest) ≡ numbers_of stream (event ∷ []) ++ numbers_of stream rest
  numbers_first event rest = filter_map-append stream.number (event ∷ []) rest

  numbers_behind : (line : List (Carried P)) (event : Carried P) → numbers_of stream (line ++ event ∷ []) ≡ numbers_of stream line ++ numbers_of stream (event ∷ [])
  numbers_behind line event = filter_map-append stream.number line (event ∷ [])

  puts_first : (put : Put P) (rest : List (Put P)) → numbers_put stream (put ∷ rest) ≡ numbers_put stream (put ∷ []) ++ numbers_put stream rest
  puts_first put rest = filter_map-append (λ (p : Put P). number_put stream p) (put ∷ []) rest

  put_there : (put : Put P) → put.0.0 ≡ stream.receiver.0 → numbers_put stream (put ∷ []) ≡ numbers_of stream ((put.1, put.2) ∷ [])
  put_there put same = ap (λ (b : Bool). cons_option (if b then stream.number (put.1, put.2) else None) []) (eq-eqb put.0.0 stream.receiver.0 same)

  put_apart : (put : Put P) → put.0.0 ≢ stream.receiver.0 → numbers_put stream (put ∷ []) ≡ []
  put_apart put apart = ap (λ (b : Bool). cons_option (if b then stream.number (put.1, put.2) else None) []) (ne_eqb put.0.0 stream.receiver.0 apart)

  puts_append : (xs ys : List (Put P)) → numbers_put stream (xs ++ ys) ≡ numbers_put stream xs ++ numbers_put stream ys
  puts_append xs ys = filter_map-append (λ (p : Put P). number_put stream p) xs ys

  -- ---- nothing is seen of a step

  pub order_moved : (a b : WeaveState S P) → NothingSeen a b → InOrder stream a → InOrder stream b
  order_moved a b nothing was =
      let same = nothing.each in
      let c = stream.receiver in
      let d = stream.sender in
      let lists : stream.received was.receiver ++ numbers_of stream (seen c b).line ++ numbers_put stream (seen d b).puts ≡ stream.received was.receiver ++ numbers_of stream (seen c a).line ++ numbers_put stream (seen d a).puts =
      ap (λ (s : ColourSeen S P). stream.received was.receiver ++ numbers_of stream s.line ++ numbers_put stream (seen d b).puts) (same c)
      ∙ ap (λ (s : ColourSeen S P). stream.received was.receiver ++ numbers_of stream (seen c a).line ++ numbers_put stream s.puts) (same d) in
      record {
        receiver = was.receiver;
        receiver_is = ap (λ (s : ColourSeen S P). s.state) (same c) ∙ was.receiver_is;
        sender = was.sender;
        sender_is = ap (λ (s : ColourSeen S P). s.state) (same d) ∙ was.sender_is;
        rises = subst (λ (l : List ℕ). Rises 0 l (stream.sent was.sender)) (sym lists) was.rises;
        counted = λ gapless.
            let there = ap (λ (s : ColourSeen S P). length (numbers_of stream s.line)) (same c) in
            let held = ap (λ (s : ColourSeen S P). length (numbers_put stream s.puts)) (same d) in
            let lost = ap (λ (l : List (Put P)). length (numbers_put stream l)) nothing.lost in
            let before = was.counted gapless in
            omega (arith, there, held, lost, before);
        quiet = λ e apart. ap (λ (s : ColourSeen S P). numbers_put stream s.puts) (same e) ∙ was.quiet e apart;
        sound = λ e state at. was.sound e state (sym (ap (λ (s : ColourSeen S P). s.state) (same e)) ∙ at);
      }

  -- ---- a registration

  -- the numbers that a registration brings into the receiver's line, unless it was refused
  abbrev pub IsGained : Put P → Result Registered (Unregistered P) → List ℕ → Type 0
  IsGained put (Ok reply) more = more ≡ numbers_put stream (put ∷ [])
  IsGained put (Err back) more = more ≡ []

  pub record Gains (put : Put P) (answer : Result Registered (Unregistered P)) (before later : List (Carried P)) : Type 0 where
    pub more : List ℕ
    pub line : numbers_of stream later ≡ numbers_of stream before ++ more
    pub known : IsGained put answer more

  no_gain : (before later : List (Carried P)) → later ≡ before → numbers_of stream later ≡ numbers_of stream before ++ []
  no_gain before later same = ap (λ (l : List (Carried P)). numbers_of stream l) same ∙ sym (append-nil (numbers_of stream before))

  pub gains_apart : (put : Put P) (answer : Result Registered (Unregistered P)) (before later : List (Carried P)) → put.0.0 ≢ stream.receiver.0 → later ≡ before → Gains put answer before later
  gains_apart put (Ok reply) before later apart same = record { more = []; line = no_gain before later same; known = sym (put_apart put apart) }
  gains_apart put (Err back) before later apart same = record { more = []; line = no_gain before later same; known = refl }

  pub gains_there : (put : Put P) (answer : Result Registered (Unregistered P)) (before later : List (Carried P)) → put.0.0 ≡ stream.receiver.0 → Enters answer (put.1, put.2) before later → Gains put answer before later
  gains_there put (Ok reply) before later there enters = record {
    more = numbers_put stream (put ∷ []);
    line = ap (λ (l : List (Carried P)). numbers_of stream l) enters ∙ numbers_behind before (put.1, put.2) ∙ ap (λ (l : List ℕ). numbers_of stream before ++ l) (sym (put_there put there));
    known = refl;
  }
  gains_there put (Err back) before later there enters = record { more = []; line = no_gain before later enters; known = refl }

  -- what enters the line and what is refused are what was registered
  all_kept : (put : Put P) (answer : Result Registered (Unregistered P)) (more : List ℕ) (lost later : List (Put P)) → IsGained put answer more → IsKept answer put lost later → length more + length (numbers_put stream later) ≡ length (numbers_put stream (put ∷ [])) + length (numbers_put stream lost)
  all_kept put (Ok reply) more lost later gained kept =
      let one = ap length gained in
      let same = ap (λ (l : List (Put P)). length (numbers_put stream l)) kept in
      omega (arith, one, same)
  all_kept put (Err back) more lost later gained kept =
      let front : List (Put P) = kept.0 in
      let behind : List (Put P) = kept.1 in
      let none = ap length gained in
      let was = ap (λ (l : List (Put P)). length (numbers_put stream l)) kept.2 ∙ ap length (puts_append front behind) ∙ length-append (numbers_put stream front) (numbers_put stream behind) in
      let first = ap length (puts_append front (put ∷ [])) ∙ length-append (numbers_put stream front) (numbers_put stream (put ∷ [])) in
      let is = ap (λ (l : List (Put P)). length (numbers_put stream l)) kept.3 ∙ ap length (puts_append (front ++ put ∷ []) behind) ∙ length-append (numbers_put stream (front ++ put ∷ [])) (numbers_put stream behind) in
      omega (arith, none, was, first, is)

  module _ (made : Made) (a b : WeaveState S P) (reg : RegistersFirst made a b) where
    abbrev c : Colour
    c = stream.receiver

    abbrev d : Colour
    d = stream.sender

    gains : Gains reg.put reg.answer (seen c a).line (seen c b).line
    gains = elim (cases_eq reg.put.0.0 c.0) [
      | inl there ↦ gains_there reg.put reg.answer (seen c a).line (seen c b).line there (subst (λ (e : Colour). Enters reg.answer (reg.put.1, reg.put.2) (seen e a).line (seen e b).line) (colour_same reg.put.0 c there) reg.enters)
      | inr apart ↦ gains_apart reg.put reg.answer (seen c a).line (seen c b).line apart (reg.lines c (λ e. apart (sym e)))
    ]

    -- of a colour that isn't the sender, what is registered is not of the stream
    not_of : InOrder stream a → reg.by.0 ≢ d.0 → (numbers_put stream (reg.put ∷ []) ≡ []) × (numbers_put stream reg.rest ≡ [])
    not_of was apart = append_none (numbers_put stream (reg.put ∷ [])) (numbers_put stream reg.rest)
        (sym (puts_first reg.put reg.rest) ∙ ap (λ (l : List (Put P)). numbers_put stream l) (sym reg.first) ∙ was.quiet reg.by apart)

    -- the sender has one registration less left, where it was the sender's
    one_less : InOrder stream a → numbers_put stream (seen d a).puts ≡ numbers_put stream (reg.put ∷ []) ++ numbers_put stream (seen d b).puts
    one_less was = elim (cases_eq reg.by.0 d.0) [
      | inl same ↦
          let by = colour_same reg.by d same in
          let first : (seen d a).puts ≡ reg.put ∷ reg.rest = ap (λ (e : Colour). (seen e a).puts) (sym by) ∙ reg.first in
          let left : (seen d b).puts ≡ reg.rest = ap (λ (e : Colour). (seen e b).puts) (sym by) ∙ reg.left in
          ap (λ (l : List (Put P)). numbers_put stream l) first ∙ puts_first reg.put reg.rest ∙ ap (λ (l : List (Put P)). numbers_put stream (reg.put ∷ []) ++ numbers_put stream l) (sym left)
      | inr apart ↦
          let none = (not_of was apart).0 in
          let same = reg.others d (λ e. apart (sym e)) in
          ap (λ (l : List (Put P)). numbers_put stream l) (sym same) ∙ ap (λ (l : List ℕ). l ++ numbers_put stream (seen d b).puts) (sym none)
    ]

    -- what was put goes into the line, or is left out
    rises_by : (answer : Result Registered (Unregistered P)) (had line more rest : List ℕ) (top : ℕ) → IsGained reg.put answer more → Rises 0 ((had ++ line) ++ (numbers_put stream (reg.put ∷ []) ++ rest)) top → Rises 0 ((had ++ (line ++ more)) ++ rest) top
    rises_by (Ok reply) had line more rest top gained rise =
        let shape : (had ++ (line ++ more)) ++ rest ≡ (had ++ line) ++ (more ++ rest) = ap (λ (l : List ℕ). l ++ rest) (sym (append_assoc had line more)) ∙ append_assoc (had ++ line) more rest in
        subst (λ (l : List ℕ). Rises 0 l top) (sym (shape ∙ ap (λ (l : List ℕ). (had ++ line) ++ (l ++ rest)) gained)) rise
    rises_by (Err back) had line more rest top gained rise =
        let shape : (had ++ (line ++ more)) ++ rest ≡ (had ++ line) ++ rest = ap (λ (l : List ℕ). (had ++ l) ++ rest) (ap (λ (l : List ℕ). line ++ l) gained ∙ append-nil line) in
        subst (λ (l : List ℕ). Rises 0 l top) (sym shape) (rises_without 0 (had ++ line) (numbers_put stream (reg.put ∷ [])) rest top rise)

    still_rises : (was : InOrder stream a) → Rises 0 (stream.received was.receiver ++ numbers_of stream (seen c b).line ++ numbers_put stream (seen d b).puts) (stream.sent was.sender)
    still_rises was =
        let had : List ℕ = stream.received was.receiver in
        let line : List ℕ = numbers_of stream (seen c a).line in
        let rest : List ℕ = numbers_put stream (seen d b).puts in
        let top = stream.sent was.sender in
        let all : Rises 0 ((had ++ line) ++ (numbers_put stream (reg.put ∷ []) ++ rest)) top = subst (λ (l : List ℕ). Rises 0 ((had ++ line) ++ l) top) (one_less was) was.rises in
        subst (λ (l : List ℕ). Rises 0 ((had ++ l) ++ rest) top) (sym gains.line) (rises_by reg.answer had line gains.more rest top gains.known all)

    still_counted : (was : InOrder stream a) → stream.is_gapless ≡ true → length (stream.received was.receiver) + length (numbers_of stream (seen c b).line) + length (numbers_put stream (seen d b).puts) + length (numbers_put stream (lost_in b)) ≡ stream.sent was.sender
    still_counted was gapless =
        let before = was.counted gapless in
        let line = ap length gains.line ∙ length-append (numbers_of stream (seen c a).line) gains.more in
        let held = ap length (one_less was) ∙ length-append (numbers_put stream (reg.put ∷ [])) (numbers_put stream (seen d b).puts) in
        let kept = all_kept reg.put reg.answer gains.more (lost_in a) (lost_in b) gains.known reg.lost in
        omega (arith, before, line, held, kept)

    pub order_registered : InOrder stream a → InOrder stream b
    order_registered was = record {
      receiver = was.receiver;
      receiver_is = reg.states c ∙ was.receiver_is;
      sender = was.sender;
      sender_is = reg.states d ∙ was.sender_is;
      rises = still_rises was;
      counted = still_counted was;
      quiet = λ e apart. elim (cases_eq e.0 reg.by.0) [
        | inl same ↦
            let left : (seen e b).puts ≡ reg.rest = ap (λ (x : Colour). (seen x b).puts) (colour_same e reg.by same) ∙ reg.left in
            ap (λ (l : List (Put P)). numbers_put stream l) left ∙ (not_of was (λ is. apart (same ∙ is))).1
        | inr other ↦ ap (λ (l : List (Put P)). numbers_put stream l) (reg.others e other) ∙ was.quiet e apart
      ];
      sound = λ e state at. was.sound e state (sym (reg.states e) ∙ at);
    }

-- ---- a handler

module _ {R S P F : Type 0} (t : TrailWords S F) (fits : F → Colour → Event → Option P → Type 0) (y : AppWords R P S F) (app : R) (stream : Stream S P) (made : Made) (a b : WeaveState S P) (run : RunsFirst t fits y app made a b) (does : HandlerServes stream run.of run.state run.event run.becomes run.puts) (was : InOrder stream a) where
  abbrev to : Colour
  to = stream.receiver

  abbrev from : Colour
  from = stream.sender

  -- the receiver afterwards: what it received, with its line behind it, is the same
  record Received : Type 0 where
    pub state : S
    pub is : (seen to b).state ≡ Some state
    pub same : stream.received state ++ numbers_of stream (seen to b).line ≡ stream.received was.receiver ++ numbers_of stream (seen to a).line

  received : Received
  received = elim (cases_eq run.of.0 to.0) [
    | inl own ↦
        let it = colour_same run.of to own in
        let state_was : Some was.receiver ≡ Some run.state = sym was.receiver_is ∙ ap (λ (c : Colour). (seen c a).state) (sym it) ∙ run.was in
        let state : was.receiver ≡ run.state = same_Some was.receiver run.state state_was in
        let one : List ℕ = numbers_of stream (run.event ∷ []) in
        let line : numbers_of stream (seen to a).line ≡ one ++ numbers_of stream (seen to b).line =
        ap (λ (l : List (Carried P)). numbers_of stream l) (ap (λ (c : Colour). (seen c a).line) (sym it) ∙ run.first ∙ ap (λ (c : Colour). run.event ∷ (seen c b).line) it) ∙ numbers_first stream run.event (seen to b).line in
        let more = does.receives it in
        record {
          state = run.becomes;
          is = ap (λ (c : Colour). (seen c b).state) (sym it) ∙ run.is;
          same = ap (λ (l : List ℕ). l ++ numbers_of stream (seen to b).line) more ∙ append_assoc (stream.received run.state) one (numbers_of stream (seen to b).line)
              ∙ ap (λ (l : List ℕ). stream.received run.state ++ l) (sym line) ∙ ap (λ (s : S). stream.received s ++ numbers_of stream (seen to a).line) (sym state);
        }
    | inr apart ↦
        let looks = run.others to (λ e. apart (sym e)) in
        record {
          state = was.receiver;
          is = ap (λ (s : ColourSeen S P). s.state) looks ∙ was.receiver_is;
          same = ap (λ (s : ColourSeen S P). stream.received was.receiver ++ numbers_of stream s.line) looks;
        }
  ]

  -- the sender afterwards: whatever rose with what it had left to register rises with what it has
  -- left now
  record Sent : Type 0 where
    pub state : S
    pub is : (seen from b).state ≡ Some state
    pub rises : (front : List ℕ) → Rises 0 (front ++ numbers_put stream (seen from a).puts) (stream.sent was.sender) → Rises 0 (front ++ numbers_put stream (seen from b).puts) (stream.sent state)
    pub counted : stream.is_gapless ≡ true → stream.sent state + length (numbers_put stream (seen from a).puts) ≡ stream.sent was.sender + length (numbers_put stream (seen from b).puts)

  sent : Sent
  sent = elim (cases_eq run.of.0 from.0) [
    | inl own ↦
        let it = colour_same run.of from own in
        let state_was : Some was.sender ≡ Some run.state = sym was.sender_is ∙ ap (λ (c : Colour). (seen c a).state) (sym it) ∙ run.was in
        let state : was.sender ≡ run.state = same_Some was.sender run.state state_was in
        let none : numbers_put stream (seen from a).puts ≡ [] = ap (λ (l : List (Put P)). numbers_put stream l) (ap (λ (c : Colour). (seen c a).puts) (sym it) ∙ run.none_left) in
        let left : numbers_put stream (seen from b).puts ≡ numbers_put stream run.puts = ap (λ (l : List (Put P)). numbers_put stream l) (ap (λ (c : Colour). (seen c b).puts) (sym it) ∙ run.put) in
        let more = does.sends it in
        record {
          state = run.becomes;
          is = ap (λ (c : Colour). (seen c b).state) (sym it) ∙ run.is;
          rises = λ front rise.
              let first : Rises 0 front (stream.sent run.state) = rises_as (front ++ numbers_put stream (seen from a).puts) front (stream.sent was.sender) (stream.sent run.state) (sym (ap (λ (l : List ℕ). front ++ l) none ∙ append-nil front)) (ap stream.sent (sym state)) rise in
              subst (λ (l : List ℕ). Rises 0 (front ++ l) (stream.sent run.becomes)) (sym left) (rises_append 0 front (stream.sent run.state) (numbers_put stream run.puts) (stream.sent run.becomes) first more);
          counted = λ gapless.
              let now = does.counts gapless it in
              let was_none = ap length none in
              let is_left = ap length left in
              let top = ap stream.sent state in
              omega (arith, now, was_none, is_left, top);
        }
    | inr apart ↦
        let looks = run.others from (λ e. apart (sym e)) in
        record {
          state = was.sender;
          is = ap (λ (s : ColourSeen S P). s.state) looks ∙ was.sender_is;
          rises = λ front rise. subst (λ (s : ColourSeen S P). Rises 0 (front ++ numbers_put stream s.puts) (stream.sent was.sender)) (sym looks) rise;
          counted = λ gapless.
              let same = ap (λ (s : ColourSeen S P). length (numbers_put stream s.puts)) looks in
              omega (arith, same);
        }
  ]

  pub order_ran : InOrder stream b
  order_ran = record {
    receiver = received.state;
    receiver_is = received.is;
    sender = sent.state;
    sender_is = sent.is;
    rises = sent.rises (stream.received received.state ++ numbers_of stream (seen to b).line)
        (subst (λ (l : List ℕ). Rises 0 (l ++ numbers_put stream (seen from a).puts) (stream.sent was.sender)) (sym received.same) was.rises);
    counted = λ gapless.
        let before = was.counted gapless in
        let moved = sym (length-append (stream.received received.state) (numbers_of stream (seen to b).line)) ∙ ap length received.same ∙ length-append (stream.received was.receiver) (numbers_of stream (seen to a).line) in
        let more = sent.counted gapless in
        let lost = ap (λ (l : List (Put P)). length (numbers_put stream l)) run.lost in
        omega (arith, before, moved, more, lost);
    quiet = λ c apart. elim (cases_eq c.0 run.of.0) [
      | inl own ↦
          let it = colour_same c run.of own in
          let unlike : run.of.0 ≢ from.0 = λ e. apart (own ∙ e) in
          ap (λ (l : List (Put P)). numbers_put stream l) (ap (λ (x : Colour). (seen x b).puts) it ∙ run.put) ∙ does.silent unlike
      | inr other ↦ ap (λ (s : ColourSeen S P). numbers_put stream s.puts) (run.others c other) ∙ was.quiet c apart
    ];
    sound = λ c state at. elim (cases_eq c.0 run.of.0) [
      | inl own ↦
          let there : Some run.becomes ≡ Some state = sym run.is ∙ sym (ap (λ (x : Colour). (seen x b).state) (colour_same c run.of own)) ∙ at in
          ap stream.is_sound (sym (same_Some run.becomes state there)) ∙ does.sound
      | inr other ↦ was.sound c state (sym (ap (λ (s : ColourSeen S P). s.state) (run.others c other)) ∙ at)
    ];
  }

module _ {R S P F : Type 0} (t : TrailWords S F) (fits : F → Colour → Event → Option P → Type 0) (y : AppWords R P S F) (app : R) (stream : Stream S P) (made : Made) (a b : WeaveState S P) where
  -- a step keeps a stream in order, where the handler that it runs serves the stream
  pub step_in_order : ((run : RunsFirst t fits y app made a b) → HandlerServes stream run.of run.state run.event run.becomes run.puts) → StepSeen t fits y app made a b → InOrder stream a → InOrder stream b
  step_in_order each step was = elim step [
    | inl same ↦ order_moved stream a b same was
    | inr does ↦ elim does [
      | inl reg ↦ order_registered stream made a b reg was
      | inr run ↦ order_ran t fits y app stream made a b run (each run) was
    ]
  ]

  -- as it does where each handler does
  pub served_in_order : ServesStream t fits y app (t.frame_of a.given) stream → StepSeen t fits y app made a b → InOrder stream a → InOrder stream b
  served_in_order serves step was = step_in_order
      (λ run.
      let fit = subst (λ (c : Colour). fits (t.frame_of a.given) c run.event.0 run.event.1) (sym run.colour) run.fit in
      subst (λ (c : Colour). HandlerServes stream c run.state run.event run.becomes run.puts) run.colour
      (serves.each run.state run.event.0 run.event.1 run.becomes run.puts run.frame (was.sound run.of run.state run.was) fit run.ran))
      step was
