-- Where all runs have their causes, a stream's receiver has received all that its sender sent.
use Rattle.std.proofs.Common.{◌≡◌, ◌≢◌, ℕ, ◌+◌, Bool, true, false, if◌then◌else◌, List, [], ◌∷◌, ◌++◌, Option, None, Some, length, map, filter_map, refl, sym, ◌∙◌, ap, ap₂, subst, inl, inr, arith, eq-eqb}
use Rattle.std.specs.Prelude.{◌==◌}
use Rattle.std.specs.List.{AllByRecursion, cons_option, range_with_len}
use Rattle.std.proofs.lemmas.Bool.Decides.{eqb_tells}
use Rattle.std.proofs.lemmas.List.{append-nil, append_assoc, length-append}
use Rattle.std.proofs.lemmas.List.Elements.{filter_map-append}
use Rattle.mely_event.specs.declared.colour.Colour.{Colour}
use Rattle.mely_event.specs.declared.event.Event.{Event}
use Rattle.mely_tally.specs.Account.{HandlerRun}
use Rattle.mely_chain.specs.Runs.{RunThrough, Follow, given_to, puts_on, puts_of}
use Rattle.mely_cause.specs.Causes.{AreCaused, Registration, put_first, put_by_colour}
use Rattle.mely_order.specs.InOrder.{BeginsInOrder}
use Rattle.mely_order.specs.Rising.{Rises}
use Rattle.mely_order.specs.Stream.{Stream, HandlerServes, number_put, numbers_of, numbers_put}
use Rattle.mely_order.proofs.RisingLemmas.{rises_append, rising_all}

module _ {S P : Type 0} (stream : Stream S P) where
  -- a run on the colour serves the stream, where it was given a sound state
  abbrev pub ServesAt : Colour → HandlerRun S P → Type 0
  ServesAt c run = stream.is_sound run.state ≡ true → HandlerServes stream c run.state (run.event, run.load) run.becomes run.puts

  -- ---- along the runs of a colour

  joined : (run : HandlerRun S P) (runs : List (HandlerRun S P)) → numbers_put stream (puts_of (run ∷ runs)) ≡ numbers_put stream run.puts ++ numbers_put stream (puts_of runs)
  joined run runs = filter_map-append (number_put stream) run.puts (puts_of runs)

  module _ (c : Colour) (last : S) where
    serves_here : (from : S) (run : HandlerRun S P) → stream.is_sound from ≡ true → ServesAt c run → run.state ≡ from → HandlerServes stream c run.state (run.event, run.load) run.becomes run.puts
    serves_here from run sound serves is = serves (ap stream.is_sound is ∙ sound)

    -- they put nothing of the stream, unless the colour is the sender
    pub silent_runs : c.0 ≢ stream.sender.0 → (from : S) (runs : List (HandlerRun S P)) → stream.is_sound from ≡ true → AllByRecursion (ServesAt c) runs → Follow from runs last → numbers_put stream (puts_of runs) ≡ []
    silent_runs apart from [] sound all follow = refl
    silent_runs apart from (run ∷ runs) sound all follow =
        let here = serves_here from run sound all.0 follow.0 in
        joined run runs ∙ ap₂ (λ k l. k ++ l) (here.silent apart) (silent_runs apart run.becomes runs here.sound all.1 follow.1)

    -- what those of the sender put rises
    sent_rises : c ≡ stream.sender → (from : S) (runs : List (HandlerRun S P)) → stream.is_sound from ≡ true → AllByRecursion (ServesAt c) runs → Follow from runs last → Rises (stream.sent from) (numbers_put stream (puts_of runs)) (stream.sent last)
    sent_rises at from [] sound all follow = let same = ap stream.sent follow in omega (arith, same)
    sent_rises at from (run ∷ runs) sound all follow =
        let here = serves_here from run sound all.0 follow.0 in
        let now : Rises (stream.sent from) (numbers_put stream run.puts) (stream.sent run.becomes) = subst (λ s. Rises (stream.sent s) (numbers_put stream run.puts) (stream.sent run.becomes)) follow.0 (here.sends at) in
        subst (λ ns. Rises (stream.sent from) ns (stream.sent last)) (sym (joined run runs))
        (rises_append (stream.sent from) (numbers_put stream run.puts) (stream.sent run.becomes) (numbers_put stream (puts_of runs)) (stream.sent last) now (sent_rises at run.becomes runs here.sound all.1 follow.1))

    -- and is as much as was sent
    sent_counts : stream.is_gapless ≡ true → c ≡ stream.sender → (from : S) (runs : List (HandlerRun S P)) → stream.is_sound from ≡ true → AllByRecursion (ServesAt c) runs → Follow from runs last → stream.sent last ≡ stream.sent from + length (numbers_put stream (puts_of runs))
    sent_counts gapless at from [] sound all follow = let same = ap stream.sent follow in omega (arith, same)
    sent_counts gapless at from (run ∷ runs) sound all follow =
        let here = serves_here from run sound all.0 follow.0 in
        let now = here.counts gapless at in
        let was = ap stream.sent follow.0 in
        let rest = sent_counts gapless at run.becomes runs here.sound all.1 follow.1 in
        let both = ap length (joined run runs) ∙ length-append (numbers_put stream run.puts) (numbers_put stream (puts_of runs)) in
        omega (arith, now, was, rest, both)

    -- the receiver receives what its runs are of
    received_runs : c ≡ stream.receiver → (from : S) (runs : List (HandlerRun S P)) → stream.is_sound from ≡ true → AllByRecursion (ServesAt c) runs → Follow from runs last → stream.received last ≡ stream.received from ++ numbers_of stream (map given_to runs)
    received_runs at from [] sound all follow = ap stream.received follow ∙ sym (append-nil (stream.received from))
    received_runs at from (run ∷ runs) sound all follow =
        let here = serves_here from run sound all.0 follow.0 in
        let one : List ℕ = numbers_of stream (given_to run ∷ []) in
        let more : List ℕ = numbers_of stream (map given_to runs) in
        received_runs at run.becomes runs here.sound all.1 follow.1
        ∙ ap (λ l. l ++ more) (here.receives at ∙ ap (λ s. stream.received s ++ one) follow.0)
        ∙ append_assoc (stream.received from) one more
        ∙ ap (λ l. stream.received from ++ l) (sym (filter_map-append stream.number (given_to run ∷ []) (map given_to runs)))

  -- ---- what came to a colour

  -- the numbers of what was put on the receiver
  on_receiver : (puts : List (Colour × Event × Option P)) → numbers_of stream (puts_on stream.receiver puts) ≡ numbers_put stream puts
  on_receiver [] = refl
  on_receiver (put ∷ puts) = for (put.0.0 == stream.receiver.0) (on_receiver puts) where
    for : (here : Bool) → numbers_of stream (puts_on stream.receiver puts) ≡ numbers_put stream puts → numbers_of stream (cons_option (if here then Some (put.1, put.2) else None) (puts_on stream.receiver puts)) ≡ cons_option (if here then stream.number (put.1, put.2) else None) (numbers_put stream puts)
    for true rest = ap (cons_option (stream.number (put.1, put.2))) rest
    for false rest = rest

  head_none : (e : Event × Option P) (events : List (Event × Option P)) → numbers_of stream (e ∷ events) ≡ [] → stream.number e ≡ None
  head_none e events none = for (stream.number e) none where
    for : (n : Option ℕ) → cons_option n (numbers_of stream events) ≡ [] → n ≡ None
    for None is = refl
    for (Some n) is = absurd (cc)

  tail_none : (e : Option (Event × Option P)) (events : List (Event × Option P)) → numbers_of stream (cons_option e events) ≡ [] → numbers_of stream events ≡ []
  tail_none None events none = none
  tail_none (Some e) events none = for (stream.number e) none where
    for : (n : Option ℕ) → cons_option n (numbers_of stream events) ≡ [] → numbers_of stream events ≡ []
    for None is = is
    for (Some n) is = absurd (cc)

  one_came : (one : Registration P) (cause : Option (Colour × ℕ)) (firsts later : List (Event × Option P)) (puts : Colour → List (Event × Option P)) → numbers_of stream (cons_option (put_first (record one { cause = cause })) firsts) ≡ []
      → ((d : Colour) → d.0 ≢ stream.sender.0 → numbers_of stream (cons_option (put_by_colour d (record one { cause = cause })) (puts d)) ≡ [])
      → numbers_of stream later ≡ numbers_of stream (puts stream.sender) → numbers_of stream (one.event ∷ later) ≡ numbers_of stream (cons_option (put_by_colour stream.sender (record one { cause = cause })) (puts stream.sender))
  one_came one None firsts later puts none bare rest = ap (λ o. cons_option o (numbers_of stream later)) (head_none one.event firsts none) ∙ rest
  one_came one (Some run) firsts later puts none bare rest = elim (eqb_tells run.0.0 stream.sender.0) [
    | inl own ↦ ap (cons_option (stream.number one.event)) rest ∙ sym (ap (λ (b : Bool). numbers_of stream (cons_option (if b then Some one.event else None) (puts stream.sender))) own.0)
    | inr other ↦
        let here : numbers_of stream (cons_option (if true then Some one.event else None) (puts run.0)) ≡ [] = subst (λ (b : Bool). numbers_of stream (cons_option (if b then Some one.event else None) (puts run.0)) ≡ []) (eq-eqb run.0.0 run.0.0 refl) (bare run.0 other.1) in
        ap (λ o. cons_option o (numbers_of stream later)) (head_none one.event (puts run.0) here) ∙ rest ∙ sym (ap (λ (b : Bool). numbers_of stream (cons_option (if b then Some one.event else None) (puts stream.sender))) other.0)
  ]

  -- it is what the sender put, where nobody else put anything of the stream
  all_came : (came : List (Registration P)) → numbers_of stream (filter_map put_first came) ≡ [] → ((d : Colour) → d.0 ≢ stream.sender.0 → numbers_of stream (filter_map (put_by_colour d) came) ≡ []) → numbers_of stream (map (λ one. one.event) came) ≡ numbers_of stream (filter_map (put_by_colour stream.sender) came)
  all_came [] none bare = refl
  all_came (one ∷ came) none bare = one_came one one.cause (filter_map put_first came) (map (λ r. r.event) came) (λ d. filter_map (put_by_colour d) came) none bare
      (all_came came (tail_none (put_first one) (filter_map put_first came) none) (λ d apart. tail_none (put_by_colour d one) (filter_map (put_by_colour d) came) (bare d apart)))

  -- ---- the stream

  module _ (begin : Colour × Event × Option P) (loaded : Colour → List (Event × Option P)) (runs : Colour → List (HandlerRun S P)) (caused : AreCaused begin loaded runs) where
    -- what was registered on the receiver is what the sender's runs put there
    registered : numbers_put stream (begin ∷ []) ≡ [] → ((d : Colour) → d.0 ≢ stream.sender.0 → numbers_put stream (puts_of (runs d)) ≡ []) → numbers_of stream (loaded stream.receiver) ≡ numbers_put stream (puts_of (runs stream.sender))
    registered none silent =
        ap (numbers_of stream) (sym (caused.loads stream.receiver))
        ∙ all_came (caused.came stream.receiver) (ap (numbers_of stream) (caused.first stream.receiver) ∙ on_receiver (begin ∷ []) ∙ none)
        (λ d apart. ap (numbers_of stream) (caused.by_colour stream.receiver d) ∙ on_receiver (puts_of (runs d)) ∙ silent d apart)
        ∙ ap (numbers_of stream) (caused.by_colour stream.receiver stream.sender) ∙ on_receiver (puts_of (runs stream.sender))

    -- So the receiver has received all that the sender sent, in order, where the states that were
    -- given begin the stream, the first event isn't of it, and each run serves it.
    pub all_received : (given : List S) (first : BeginsInOrder stream given) (receiver sender : S) → numbers_put stream (begin ∷ []) ≡ [] → stream.is_gapless ≡ true → ((c : Colour) → AllByRecursion (ServesAt c) (runs c))
        → ((d : Colour) → d.0 ≢ stream.sender.0 → numbers_put stream (puts_of (runs d)) ≡ [])
        → RunThrough first.receiver (loaded stream.receiver) receiver (runs stream.receiver) → RunThrough first.sender (loaded stream.sender) sender (runs stream.sender)
        → stream.received receiver ≡ range_with_len 1 (stream.sent sender)
    all_received given first receiver sender none gapless serves silent to from =
        let had : List ℕ = stream.received first.receiver in
        let put : List ℕ = numbers_put stream (puts_of (runs stream.sender)) in
        let sound_to = first.sound stream.receiver.0 first.receiver first.receiver_is in
        let sound_from = first.sound stream.sender.0 first.sender first.sender_is in
        let all : stream.received receiver ≡ had ++ put =
        received_runs stream.receiver receiver refl first.receiver (runs stream.receiver) sound_to (serves stream.receiver) to.follow ∙ ap (λ l. had ++ numbers_of stream l) to.given ∙ ap (λ l. had ++ l) (registered none silent) in
        let rise : Rises 0 (stream.received receiver) (stream.sent sender) = subst (λ l. Rises 0 l (stream.sent sender)) (sym all)
        (rises_append 0 had (stream.sent first.sender) put (stream.sent sender) first.rises (sent_rises stream.sender sender refl first.sender (runs stream.sender) sound_from (serves stream.sender) from.follow)) in
        let counts = sent_counts stream.sender sender gapless refl first.sender (runs stream.sender) sound_from (serves stream.sender) from.follow in
        let begun = first.counted gapless in
        let many = ap length all ∙ length-append had put in
        let same : length (stream.received receiver) ≡ stream.sent sender = omega (arith, counts, begun, many) in
        rising_all 0 (stream.received receiver) (stream.sent sender) rise (omega (arith, same)) ∙ ap (range_with_len 1) same
