-- What a run of the app leaves is what a run of actors leaves.
use Rattle.std.proofs.Common.{◌≡◌, ◌<◌, ◌≤◌, ◌+◌, ◌==◌, ℕ, Bool, true, false, List, [], ◌∷◌, ◌++◌, Option, None, Some, if◌then◌else◌, length, map, nat_lt, refl, sym, ◌∙◌, ap, subst, arith, inl, inr, eq-eqb, ne_eqb, ltb-true, ltb-false}
use Rattle.std.proofs.lemmas.Bool.{cases_eq, cases_lt, lt-ltb}
use Rattle.std.proofs.lemmas.List.{append-nil, length-map}
use Rattle.std.proofs.lemmas.List.Sums.{sum_by-cons}
use Rattle.std.proofs.lemmas.Option.{slice_get-map, slice_get_within}
use Rattle.std.specs.List.{AllByRecursion, cons_option, filter_map, flat_map}
use Rattle.std.specs.Prelude.{slice_get, sum_by}
use Rattle.mely_event.specs.declared.colour.Colour.{Colour}
use Rattle.mely_event.specs.declared.event.Event.{Event}
use Rattle.mely_event.specs.declared.trail.Trail.{Ghosts as TrailWords}
use Rattle.mely_history.specs.declared.entry.Entry.{Entry}
use Rattle.mely_history.specs.declared.setup.Setup.{Setup}
use Rattle.mely_history.specs.History.{registered_of}
use Rattle.mely_history.specs.Setup.{colours_of}
use Rattle.mely_history.proofs.LegalAccountLemmas.{same_colour}
use Rattle.mely_note.specs.Notes.{loaded_of}
use Rattle.mely_note.proofs.NoteLemmas.{events-loaded_of}
use Rattle.mely_tally.specs.Account.{HandlerRun, IsRunOf}
use Rattle.mely_weave.specs.Making.{AreInitial}
use Rattle.mely_weave.specs.Side.{shard_of}
use Rattle.mely_weave.proofs.Wholes.GatherLemmas.{get_there}
use Rattle.mely_worker.specs.declared.app.App.{Ghosts as AppWords}
use Rattle.mely_chain.specs.Runs.{given_to, puts_of, puts_on}
use Rattle.mely_chain.proofs.OrderLemmas.{each_fits, each_on}
use Rattle.mely_app.specs.InOrder.{RanInOrder}
use Rattle.mely_app.specs.Puts.{sum_colours}
use Rattle.mely_app.specs.RanAll.{RanAll}
use Rattle.mely_app.proofs.PutsLemmas.{colours_both, colours_one, colours_same}
use Rattle.mely_actor.specs.declared.actor.Actor.{Ghosts as ActorWords}
use Rattle.mely_actor.specs.declared.load.Load.{Load}
use Rattle.mely_actor.specs.declared.load.Load.TheVariants.{Posts, Message}
use Rattle.mely_actor.specs.declared.load.Plan.{Plan}
use Rattle.mely_actor.specs.KeptState.{KeptState}
use Rattle.mely_actor.specs.Loads.{FitsLoad, is_turn, message_of, messages_of}
use Rattle.mely_actor.specs.Received.{AreKept, AreMade, AreValues}
use Rattle.mely_actor.specs.Running.{Runs}
use Rattle.mely_actor.specs.Sending.{IsThere, count_to, is_sent_by, messages_in, none_sent, sends_to, sent_by}
use Rattle.mely_actor.specs.Serial.{Receipt, ReceivedAsByOne, ReceivedByOne, received_in, sent_in}
use Rattle.mely_actor.proofs.ChainLemmas.{IsOn, Through, of_message, of_turn, through}
use Rattle.mely_actor.proofs.NewsLemmas.{all-news_to, all_news, neither-picked, news-counted, news_to, news-passed, own_news, passing, picked, posted_news, posts_in, posts_of, sends-counted}
use Rattle.mely_actor.proofs.ReceiptLemmas.{carried, carried_posts, in_load, messages_in_runs, on_colour, receipts_in}
use Rattle.mely_actor.proofs.RegisteredLemmas.{found, puts_by_runs, registered_sum, sum_by-filter_map}
use Rattle.mely_actor.proofs.SenderLemmas.{all-came, by-colour, came-there, came_from, many-senders, merged, posts-came, senders-there, senders_of}
use Rattle.mely_actor.proofs.SerialLemmas.{ByOne, IsOurs, KeepAlong, all_of_each, all_waiting, kept_at, none_waiting, received_by_one, values_of, waiting_at}
use Rattle.mely_actor.proofs.SilentLemmas.{is_mapped}
use Rattle.mely_actor.proofs.WaitingLemmas.{none_there, of_some, of_true}

-- the states that were made are initial
pub are_initial : {A M V : Type 0} (a : ActorWords A V M) (t : TrailWords (KeptState A M V) (Plan A M)) (trails : (s : KeptState A M V) → t.trail_of s ≡ s.log.events) (colours : (s : KeptState A M V) → t.colour_of s ≡ s.log.colour) (frames : (s : KeptState A M V) → t.frame_of s ≡ s.plan)
    (plan : Plan A M) (setup : Setup) (states : List (KeptState A M V)) → AreMade a plan (colours_of setup) states → AreInitial t setup states
are_initial a t trails colours frames plan setup states made = record {
  all = made.many;
  coloured = λ i state at. colours state ∙ ap (λ log. log.colour) (made.each i state at).log;
  untouched = λ i state at. trails state ∙ ap (λ log. log.events) (made.each i state at).log;
  one_frame = λ i j x y one other. frames x ∙ (made.each i x one).of_plan ∙ sym (made.each j y other).of_plan ∙ sym (frames y);
}

-- ---- the messages among loads that fit

module _ {M : Type 0} (colours : ℕ) (event_of : M → Event) (sound : Colour → M → Type 0) (posts : List (Colour × M)) (c : Colour) where
  abbrev Fits : Event × Option (Load M) → Type 0
  Fits load = FitsLoad colours event_of sound posts c load.0 load.1

  passed : (event : Event) (events : List Event) → event.handler ≡ 0 → messages_in (event ∷ events) ≡ messages_in events
  passed event events none = ap (λ (n : ℕ). if nat_lt 0 n then event ∷ messages_in events else messages_in events) none

  -- their events are those of messages among all
  events_of_messages : (loads : List (Event × Option (Load M))) → AllByRecursion Fits loads → map event_of (messages_of loads) ≡ messages_in (map (λ load. load.0) loads)
  events_of_messages [] each = refl
  events_of_messages ((event, Some (Posts all)) ∷ loads) each =
      events_of_messages loads each.1 ∙ sym (passed event (map (λ (load : Event × Option (Load M)). load.0) loads) (ap (λ (e : Event). e.handler) each.0.first))
  events_of_messages ((event, Some (Message message)) ∷ loads) each =
      let rest : List Event = map (λ (load : Event × Option (Load M)). load.0) loads in
      ap (λ l. event_of message ∷ l) (events_of_messages loads each.1)
      ∙ ap (λ (e : Event). e ∷ messages_in rest) (sym each.0.of_message)
      ∙ sym (ap (λ (b : Bool). if b then event ∷ messages_in rest else messages_in rest) (lt-ltb 0 event.handler each.0.own))
  events_of_messages ((event, None) ∷ loads) each =
      events_of_messages loads each.1 ∙ sym (passed event (map (λ (load : Event × Option (Load M)). load.0) loads) (ap (λ (e : Event). e.handler) each.0.turn))

  -- and each might be sent there
  messages_sound : (loads : List (Event × Option (Load M))) → AllByRecursion Fits loads → AllByRecursion (sound c) (messages_of loads)
  messages_sound [] each = tt
  messages_sound ((event, Some (Posts all)) ∷ loads) each = messages_sound loads each.1
  messages_sound ((event, Some (Message message)) ∷ loads) each = (each.0.is_sound, messages_sound loads each.1)
  messages_sound ((event, None) ∷ loads) each = messages_sound loads each.1

module _ {A V M R : Type 0} (a : ActorWords A V M) (plan : Plan A M) (setup : Setup) (t : TrailWords (KeptState A M V) (Plan A M)) (colours : (s : KeptState A M V) → t.colour_of s ≡ s.log.colour) (frames : (s : KeptState A M V) → t.frame_of s ≡ s.plan)
    (fits : Plan A M → Colour → Event → Option (Load M) → Type 0) (fits_are : (c : Colour) (event : Event) (load : Option (Load M)) → fits plan c event load → FitsLoad (a.colours_of plan.actor) a.event_of (a.sound plan.actor) plan.posts.items c event load)
    (y : AppWords R (Load M) (KeptState A M V) (Plan A M)) (app : R) (runs_are : (before : KeptState A M V) (event : Event) (load : Option (Load M)) (after : KeptState A M V) (puts : List (Colour × Event × Option (Load M))) → y.runs app before event load after puts → Runs a before load after puts)
    (event : Event) (load : Option (Load M)) (posts : posts_of load ≡ plan.posts.items) (no_message : message_of load ≡ None) (no_turn : is_turn load ≡ false)
    (firsts : List (KeptState A M V)) (histories : List (List Entry)) (states : List (KeptState A M V)) (values : List V) (made : AreMade a plan (colours_of setup) firsts) (ran : RanAll t setup (record { 0 = 0 }) event histories states)
    (order : RanInOrder t fits y app setup plan (record { 0 = 0 }, event, load) firsts histories states) (taken : AreValues states values) where
  abbrev begin : Colour × Event × Option (Load M)
  begin = (record { 0 = 0 }, event, load)

  abbrev Run : Type 0
  Run = HandlerRun (KeptState A M V) (Load M)

  abbrev runs : Colour → List Run
  runs c = map (λ run. run.1) (order.by_colour c)

  abbrev loads : Colour → List (Event × Option (Load M))
  loads c = loaded_of (order.notes (shard_of setup c)) c

  abbrev received : Colour → List M
  received c = messages_of (loads c)

  all_on : (c : Colour) (some : List Run) → AllByRecursion (λ run. IsRunOf t fits y app setup plan run × (run.colour ≡ c)) some → AllByRecursion (IsOn a plan c) some
  all_on c [] each = tt
  all_on c (run ∷ some) each = (
    record {
      of_plan = sym (frames run.state) ∙ each.0.0.framed;
      of_colour = sym (colours run.state) ∙ each.0.0.coloured ∙ each.0.1;
      does = runs_are run.state run.event run.load run.becomes run.puts each.0.0.ran;
    },
    all_on c some each.1,
  )

  -- the runs of a colour, from the state that was given to the one that is left
  record Along (c : Colour) : Type 0 where
    first : KeptState A M V
    last : KeptState A M V
    is : slice_get firsts c.0 ≡ Some first
    end : slice_get states c.0 ≡ Some last
    on : Through a plan c first last (runs c)

  along : (c : Colour) → c.0 < colours_of setup → Along c
  along c low =
      let many = made.many in
      let left = ran.colours in
      let first = get_there firsts c.0 (omega (arith, low, many)) in
      let last = get_there states c.0 (omega (arith, low, left)) in
      record {
        first = first.0;
        last = last.0;
        is = first.1;
        end = last.1;
        on = through a plan c first.0 last.0 (runs c) (all_on c (runs c) (each_on t fits y app setup plan begin (λ d. slice_get firsts d.0) (λ d. slice_get states d.0) (λ d. order.notes (shard_of setup d)) order.by_core order.by_colour order.in_order c))
            (order.in_order.on_colour c first.0 last.0 first.1 last.1).follow (taken.well c.0 last.0 last.1);
      }

  given : (c : Colour) → c.0 < colours_of setup → map given_to (runs c) ≡ loads c
  given c low = let at = along c low in (order.in_order.on_colour c at.first at.last at.is at.end).given

  fit : (c : Colour) → c.0 < colours_of setup → AllByRecursion (Fits (a.colours_of plan.actor) a.event_of (a.sound plan.actor) plan.posts.items c) (loads c)
  fit c low =
      let at = along c low in
      so (loads c) (each_fits t fits y app setup plan begin (λ d. slice_get firsts d.0) (λ d. slice_get states d.0) (λ d. order.notes (shard_of setup d)) order.by_core order.by_colour order.in_order c at.first at.last at.is at.end)
    where
      so : (some : List (Event × Option (Load M))) → AllByRecursion (λ one. fits plan c one.0 one.1) some → AllByRecursion (Fits (a.colours_of plan.actor) a.event_of (a.sound plan.actor) plan.posts.items c) some
      so [] each = tt
      so (one ∷ some) each = (fits_are c one.0 one.1 each.0, so some each.1)

  -- what was registered on a colour is the first event and what the runs of all colours put there
  put : (c : Colour) (f : Event × Option (Load M) → ℕ) → sum_by f (loads c) ≡ sum_by f (puts_on c (begin ∷ [])) + sum_colours (colours_of setup) (λ d. sum_by (λ run. sum_by f (puts_on c run.puts)) (runs d))
  put c f = registered_sum t fits y app setup plan begin (λ d. slice_get firsts d.0) (λ d. slice_get states d.0) (λ d. order.notes (shard_of setup d)) order.by_core order.by_colour order.in_order c f

  begun : (c : Colour) (f : Event × Option (Load M) → ℕ) → sum_by f (puts_on c (begin ∷ [])) ≡ (if 0 == c.0 then f (event, load) else 0)
  begun c f = for (0 == c.0) where
    for : (own : Bool) → sum_by f (filter_map (λ (o : Option (Event × Option (Load M))). o) ((if own then Some (event, load) else None) ∷ [])) ≡ (if own then f (event, load) else 0)
    for true = let one = sum_by-cons f (event, load) [] in omega (arith, one)
    for false = refl

  begun_none : (c : Colour) (f : Event × Option (Load M) → ℕ) → f (event, load) ≡ 0 → sum_by f (puts_on c (begin ∷ [])) ≡ 0
  begun_none c f none = begun c f ∙ ap (λ (x : ℕ). if 0 == c.0 then x else 0) none ∙ (for (0 == c.0)) where
    for : (own : Bool) → (if own then 0 else 0) ≡ (let nothing : ℕ = 0 in nothing)
    for true = refl
    for false = refl

  -- in the end nothing waits: as many turns are run as are put
  nothing_waits : (c : Colour) (low : c.0 < colours_of setup) → (along c low).last.waiting ≡ []
  nothing_waits c low =
      let at = along c low in
      let mine = sum_by (λ run. sum_by of_turn (puts_on c run.puts)) (runs c) in
      let all = put c of_turn in
      let none = begun_none c of_turn (ap (λ (b : Bool). of_true b) no_turn) in
      let alone = colours_same (colours_of setup) (λ d. sum_by (λ run. sum_by of_turn (puts_on c run.puts)) (runs d)) (λ d. if c.0 == d.0 then mine else 0) (λ d below. own d below) in
      let one = colours_one (colours_of setup) c mine low in
      let turns = at.on.turns in
      let are = ap (λ l. sum_by of_turn l) (given c low) in
      let fresh = ap of_some (made.each c.0 at.first at.is).nothing in
      none_there at.last.waiting (omega (arith, all, none, alone, one, turns, are, fresh))
    where
      own : (d : Colour) → d.0 < colours_of setup → sum_by (λ run. sum_by of_turn (puts_on c run.puts)) (runs d) ≡ (if c.0 == d.0 then sum_by (λ run. sum_by of_turn (puts_on c run.puts)) (runs c) else 0)
      own d below = elim (cases_eq c.0 d.0) [
        | inl same ↦ ap (λ (e : Colour). sum_by (λ run. sum_by of_turn (puts_on c run.puts)) (runs e)) (sym (same_colour c d same)) ∙ sym (ap (λ (b : Bool). if b then sum_by (λ run. sum_by of_turn (puts_on c run.puts)) (runs c) else 0) (eq-eqb c.0 d.0 same))
        | inr apart ↦ (along d below).on.no_turns c (λ e. apart (sym e)) ∙ sym (ap (λ (b : Bool). if b then sum_by (λ run. sum_by of_turn (puts_on c run.puts)) (runs c) else 0) (ne_eqb c.0 d.0 apart))
      ]

  -- ---- what a colour sent, and what was posted

  -- nothing runs on a colour that there isn't
  none_beyond : (c : Colour) → colours_of setup ≤ c.0 → runs c ≡ []
  none_beyond c high = for (runs c) (each_on t fits y app setup plan begin (λ d. slice_get firsts d.0) (λ d. slice_get states d.0) (λ d. order.notes (shard_of setup d)) order.by_core order.by_colour order.in_order c) where
    for : (some : List Run) → AllByRecursion (λ run. IsRunOf t fits y app setup plan run × (run.colour ≡ c)) some → some ≡ []
    for [] each = refl
    for (run ∷ some) each = absurd (let low = each.0.0.there in let same = ap (λ (d : Colour). d.0) each.0.1 in omega (arith, low, same, high))

  no_posts : (c d : Colour) → posts_in (puts_on c (puts_of (runs d))) ≡ []
  no_posts c d = elim (cases_lt d.0 (colours_of setup)) [
    | inl low ↦ (along d low).on.no_posts c
    | inr high ↦ ap (λ l. posts_in (puts_on c (puts_of l))) (none_beyond d high)
  ]

  -- the posts come with the first event, to the first colour
  posts_are : (c : Colour) → posts_in (loads c) ≡ (if 0 == c.0 then plan.posts.items else [])
  posts_are c =
      ap posts_in (sym (order.caused.loads c)) ∙ posts-came (order.caused.came c) (λ d. ap posts_in (order.caused.by_colour c d) ∙ no_posts c d) ∙ ap posts_in (order.caused.first c) ∙ for (0 == c.0)
    where
      for : (own : Bool) → posts_in (cons_option (if own then Some (event, load) else None) []) ≡ (if own then plan.posts.items else [])
      for true = append-nil (posts_of load) ∙ posts
      for false = refl

  first_has_none : (c : Colour) → messages_of (puts_on c (begin ∷ [])) ≡ []
  first_has_none c = for (0 == c.0) where
    for : (own : Bool) → messages_of (cons_option (if own then Some (event, load) else None) []) ≡ []
    for true = ap (λ (o : Option M). cons_option o []) no_message
    for false = refl

  told_by : (c : Colour) (b : Bool) → nat_lt c.0 (colours_of setup) ≡ b → List (Bool × (Colour × M))
  told_by c true is = (along c (ltb-true c.0 (colours_of setup) is)).on.news
  told_by c false is = []

  told : Colour → List (Bool × (Colour × M))
  told c = told_by c (nat_lt c.0 (colours_of setup)) refl

  told_so : (c : Colour) (Is : List (Bool × (Colour × M)) → Type 0) → ((low : c.0 < colours_of setup) → Is (along c low).on.news) → (colours_of setup ≤ c.0 → Is []) → Is (told c)
  unfolding told told_by
  told_so c Is each none = go (nat_lt c.0 (colours_of setup)) refl
    where
      go : (b : Bool) (is : nat_lt c.0 (colours_of setup) ≡ b) → Is (told_by c b is)
      go true is = each (ltb-true c.0 (colours_of setup) is)
      go false is = none (ltb-false c.0 (colours_of setup) is)

  abbrev sent : Colour → List (Colour × M)
  sent c = own_news (told c)

  posted_told : (d : Colour) → posted_news (told d) ≡ (if 0 == d.0 then plan.posts.items else [])
  posted_told d = told_so d (λ l. posted_news l ≡ (if 0 == d.0 then plan.posts.items else [])) (λ low. (along d low).on.posts ∙ ap posts_in (given d low) ∙ posts_are d)
      (λ high. sym (ap (λ b. if b then plan.posts.items else []) (ne_eqb 0 d.0 (λ same. let some = setup.colours_in.0 in omega (arith, some, same, high)))))

  -- in the end it was put
  sends_told : (c d : Colour) → sends_to c (all_news (told d)) ≡ messages_of (puts_on c (puts_of (runs d)))
  sends_told c d = told_so d (λ l. sends_to c (all_news l) ≡ messages_of (puts_on c (puts_of (runs d))))
      (λ low.
      let at = along d low in
      let put_now = messages_of (puts_on c (puts_of (runs d))) in
      ap (λ l. sends_to c l ++ sends_to c (all_news at.on.news)) (sym (made.each d.0 at.first at.is).nothing) ∙ sym (at.on.sends c) ∙ ap (λ l. put_now ++ sends_to c l) (nothing_waits d low) ∙ append-nil put_now)
      (λ high. ap (λ l. messages_of (puts_on c (puts_of l))) (sym (none_beyond d high)))

  -- ---- its numbers

  -- what is put for a colour by another is what that sent to it, and the posts by the first
  put_by : (c d : Colour) (number : M → ℕ) → sum_by (λ run. sum_by (of_message number) (puts_on c run.puts)) (runs d) ≡ (if 0 == d.0 then count_to c number plan.posts.items else 0) + count_to c number (sent d)
  put_by c d number =
      let each = puts_by_runs c (of_message number) (runs d) in
      let messages = sum_by-filter_map number (λ (one : Event × Option (Load M)). message_of one.1) (puts_on c (puts_of (runs d))) in
      let same = ap (λ l. sum_by number l) (sends_told c d) in
      let all = sends-counted c number (all_news (told d)) in
      let both = news-counted c number (told d) in
      let with_posts = ap (count_to c number) (posted_told d) ∙ for (0 == d.0) in
      omega (arith, each, messages, same, all, both, with_posts)
    where
      for : (own : Bool) → count_to c number (if own then plan.posts.items else []) ≡ (if own then count_to c number plan.posts.items else 0)
      for true = refl
      for false = refl

  arrived : (c : Colour) → c.0 < colours_of setup → (number : M → ℕ) → sum_by number (received c) ≡ count_to c number plan.posts.items + sum_colours (colours_of setup) (λ d. count_to c number (sent d))
  arrived c low number =
      let x = count_to c number plan.posts.items in
      let here = sum_by-filter_map number (λ (one : Event × Option (Load M)). message_of one.1) (loads c) in
      let all = put c (of_message number) in
      let none = begun_none c (of_message number) (ap (λ (o : Option M). found number o) no_message) in
      let each = colours_same (colours_of setup) (λ d. sum_by (λ run. sum_by (of_message number) (puts_on c run.puts)) (runs d)) (λ d. (if 0 == d.0 then x else 0) + count_to c number (sent d)) (λ d _. put_by c d number) in
      let both = colours_both (colours_of setup) (λ d. if 0 == d.0 then x else 0) (λ d. count_to c number (sent d)) in
      let some : 0 < colours_of setup = (let few = setup.colours_in.0 in omega (arith, few)) in
      let alone = colours_one (colours_of setup) (record { 0 = 0 }) x some in
      omega (arith, here, all, none, each, both, alone)

  value_there : (c : Colour) (value : V) → slice_get values c.0 ≡ Some value → c.0 < colours_of setup
  value_there c value at =
      let within = slice_get_within values c.0 value at in
      let many = ran.colours in
      let as_many = taken.many in
      omega (arith, within, many, as_many)

  keeps_at : (c : Colour) (value : V) → slice_get values c.0 ≡ Some value → a.kept plan.actor c (received c) (sent c) value
  keeps_at c value at =
      let low = value_there c value at in
      told_so c (λ l. a.kept plan.actor c (received c) (own_news l) value) (λ there.
      let here = along c there in
      let fresh = made.each c.0 here.first here.is in
      let kept = here.on.keeps [] [] (sym fresh.none) fresh.begins in
      let of_loads = subst (λ l. a.kept plan.actor c (messages_of l) (own_news here.on.news) here.last.value) (given c there) kept in
      subst (λ v. a.kept plan.actor c (received c) (own_news here.on.news) v) (sym (taken.each c.0 here.last value here.end at)) of_loads)
      (λ high. absurd (omega (arith, low, high)))

  -- ---- who sent what came

  abbrev came : Colour → List (Colour × M)
  came c = came_from (order.caused.came c)

  abbrev senders : Colour → List (Option Colour)
  senders c = senders_of (λ d. news_to c (told d)) (came c)

  came_is : (c : Colour) → map (λ one. one.1) (came c) ≡ received c
  came_is c = all-came (order.caused.came c) (ap messages_of (order.caused.first c) ∙ first_has_none c) ∙ ap messages_of (order.caused.loads c)

  sent_there : (c d : Colour) → map (λ one. one.1) (news_to c (told d)) ≡ sends_to d (came c)
  sent_there c d = all-news_to c (told d) ∙ sends_told c d ∙ ap messages_of (sym (order.caused.by_colour c d)) ∙ sym (by-colour d (order.caused.came c))

  all_sent : (c : Colour) → length (senders c) ≡ length (received c)
  all_sent c = many-senders (λ d. news_to c (told d)) (came c) ∙ sym (length-map (came c) (λ one. one.1)) ∙ ap length (came_is c)

  -- where only what one colour put has such a sender
  by_such : (test : Option Colour → Bool) (c e : Colour) (own with_posts : Bool) → test (Some e) ≡ own → test None ≡ with_posts → ((d : Colour) → (d.0 ≡ e.0 → ⊥) → passing test d (news_to c (told d)) ≡ []) → sent_by test (senders c) (received c) ≡ sends_to c (picked own with_posts (told e))
  by_such test c e own with_posts is none quiet = ap (sent_by test (senders c)) (sym (came_is c)) ∙ merged test e (λ d. news_to c (told d)) (came c) (sent_there c) quiet ∙ news-passed test e c own with_posts is none (told e)

  in_order : (c d : Colour) → sent_by (is_sent_by d) (senders c) (received c) ≡ sends_to c (sent d)
  in_order c d = by_such (is_sent_by d) c d true false (eq-eqb d.0 d.0 refl) refl (λ e apart. news-passed (is_sent_by d) e c false false (ne_eqb e.0 d.0 apart) refl (told e) ∙ ap (sends_to c) (neither-picked (told e)))

  posted : (c : Colour) → sent_by none_sent (senders c) (received c) ≡ sends_to c plan.posts.items
  posted c = by_such none_sent c (record { 0 = 0 }) false true refl refl (λ e apart. news-passed none_sent e c false true refl refl (told e) ∙ ap (sends_to c) (posted_told e ∙ ap (λ b. if b then plan.posts.items else []) (ne_eqb 0 e.0 (λ same. apart (sym same)))))
      ∙ ap (sends_to c) (posted_told (record { 0 = 0 }))

  there : (c : Colour) → AllByRecursion (IsThere (colours_of setup)) (senders c)
  there c = senders-there (colours_of setup) (λ d. news_to c (told d)) (came c) (came-there (colours_of setup) (came c) (λ d high. sym (sent_there c d) ∙ ap (λ l. map (λ one. one.1) (news_to c l)) (told_beyond d high)))
    where
      told_beyond : (d : Colour) → colours_of setup ≤ d.0 → told d ≡ []
      told_beyond d high = told_so d (λ l. l ≡ []) (λ low. absurd (omega (arith, low, high))) (λ far. refl)

  -- ---- one order of all receipts

  abbrev given_states : Colour → Option (KeptState A M V)
  given_states d = slice_get firsts d.0

  abbrev left_states : Colour → Option (KeptState A M V)
  left_states d = slice_get states d.0

  abbrev receipts : List (Receipt M V)
  receipts = receipts_in order.serial.all

  all_ours : AllByRecursion (IsOurs a plan (colours_of setup)) order.serial.all
  all_ours = all_of_each (IsOurs a plan (colours_of setup)) order.serial.all (λ c. subst (AllByRecursion (IsOurs a plan (colours_of setup))) (sym (order.serial.each c)) (ours c (runs c) (each_on t fits y app setup plan begin given_states left_states (λ d. order.notes (shard_of setup d)) order.by_core order.by_colour order.in_order c)))
    where
      ours : (c : Colour) (some : List Run) → AllByRecursion (λ run. IsRunOf t fits y app setup plan run × (run.colour ≡ c)) some → AllByRecursion (IsOurs a plan (colours_of setup)) some
      ours c [] each = tt
      ours c (run ∷ some) each = (
        record {
          of_plan = sym (frames run.state) ∙ each.0.0.framed;
          of_colour = sym (colours run.state) ∙ each.0.0.coloured;
          there = each.0.0.there;
          does = runs_are run.state run.event run.load run.becomes run.puts each.0.0.ran;
        },
        ours c some each.1,
      )

  begun_waits : all_waiting (colours_of setup) given_states ≡ []
  begun_waits = none_waiting (colours_of setup) given_states (λ c low. let at = along c low in ap waiting_at at.is ∙ (made.each c.0 at.first at.is).nothing)

  none_waits : all_waiting (colours_of setup) left_states ≡ []
  none_waits = none_waiting (colours_of setup) left_states (λ c low. ap waiting_at (along c low).end ∙ nothing_waits c low)

  received_in_order : ByOne a plan (colours_of setup) [] (values_of a plan (colours_of setup) given_states) (carried (begin ∷ [])) receipts (values_of a plan (colours_of setup) left_states)
  received_in_order = received_by_one a plan (colours_of setup) order.serial.all given_states left_states (begin ∷ []) all_ours order.serial.made (λ c state at. taken.well c.0 state at) begun_waits none_waits
      (λ c state at. let fresh = made.each c.0 state at in (fresh.none, fresh.begins))

  values_are : values ≡ map (λ state. state.value) states
  values_are = is_mapped (λ (state : KeptState A M V). state.value) values states taken.many (λ k state value at there. taken.each k state value at there)

  received_is : (c : Colour) → c.0 < colours_of setup → received_in c receipts ≡ received c
  received_is c low = ap (map (λ (r : Receipt M V). r.message)) (on_colour c order.serial.all ∙ ap receipts_in (order.serial.each c)) ∙ messages_in_runs (runs c) ∙ ap messages_of (given c low)

  sent_is : (c : Colour) → sent_in c receipts ≡ sent c
  sent_is c = ap (flat_map (λ (r : Receipt M V). r.sends)) (on_colour c order.serial.all ∙ ap receipts_in (order.serial.each c))
      ∙ told_so c (λ l. flat_map (λ (r : Receipt M V). r.sends) (receipts_in (runs c)) ≡ own_news l) (λ low. sym (along c low).on.own) (λ high. ap (λ l. flat_map (λ (r : Receipt M V). r.sends) (receipts_in l)) (none_beyond c high))

  serial : ReceivedAsByOne a plan.actor plan.posts.items values (λ c. received_in c receipts) (λ c. sent_in c receipts)
  serial =
      let value : KeptState A M V → V = λ state. state.value in
      let first : values_of a plan (colours_of setup) given_states ≡ (λ c. slice_get (map value firsts) c.0) = λ i c. sym (slice_get-map value firsts c.0) i in
      let last : values_of a plan (colours_of setup) left_states ≡ (λ c. slice_get values c.0) = λ i c. (sym (slice_get-map value states c.0) ∙ ap (λ l. slice_get l c.0) (sym values_are)) i in
      let way : carried (begin ∷ []) ≡ plan.posts.items = append-nil (in_load (record { 0 = 0 }) load) ∙ carried_posts (record { 0 = 0 }) load no_message ∙ posts in
      record {
        first = map value firsts;
        many =
            let made_many = made.many in
            let left_many = ran.colours in
            let taken_many = taken.many in
            let mapped = length-map firsts value in
            omega (arith, made_many, left_many, taken_many, mapped);
        all = receipts;
        each_received = λ c. refl;
        each_sent = λ c. refl;
        made = subst (λ (v : Colour → Option V). ReceivedByOne v plan.posts.items receipts (λ c. slice_get values c.0)) first
            (subst (λ (v : Colour → Option V). ReceivedByOne (values_of a plan (colours_of setup) given_states) plan.posts.items receipts v) last
            (subst (λ l. ReceivedByOne (values_of a plan (colours_of setup) given_states) l receipts (values_of a plan (colours_of setup) left_states)) way received_in_order.made));
        kept = λ before later is. kept_at a plan (colours_of setup) [] (λ c. slice_get (map value firsts) c.0) receipts before later (subst (λ (v : Colour → Option V). KeepAlong a plan (colours_of setup) [] v receipts) first received_in_order.keep) is;
      }

  are_kept : AreKept a plan.actor setup plan.posts.items histories values
  are_kept = record {
    many = taken.many ∙ ran.colours;
    shards = ran.shards;
    legal = ran.legal;
    drained = ran.drained;
    received = λ c. received_in c receipts;
    registered = λ c history low there.
        ap (map a.event_of) (received_is c low)
        ∙ events_of_messages (a.colours_of plan.actor) a.event_of (a.sound plan.actor) plan.posts.items c (loads c) (fit c low)
        ∙ ap messages_in (events-loaded_of (order.notes (shard_of setup c)) c ∙ sym (ap (λ h. registered_of h c) (order.of_histories (shard_of setup c) history there)));
    sound = λ c low. subst (AllByRecursion (a.sound plan.actor c)) (sym (received_is c low)) (messages_sound (a.colours_of plan.actor) a.event_of (a.sound plan.actor) plan.posts.items c (loads c) (fit c low));
    sent = λ c. sent_in c receipts;
    kept = λ c value at.
        subst (λ l. a.kept plan.actor c l (sent_in c receipts) value) (sym (received_is c (value_there c value at)))
        (subst (λ l. a.kept plan.actor c (received c) l value) (sym (sent_is c)) (keeps_at c value at));
    arrived = λ c low number.
        let all : sent ≡ (λ d. sent_in d receipts) = λ i d. sym (sent_is d) i in
        ap (sum_by number) (received_is c low) ∙ arrived c low number
        ∙ ap (λ (s : Colour → List (Colour × M)). count_to c number plan.posts.items + sum_colours (colours_of setup) (λ d. count_to c number (s d))) all;
    senders = senders;
    all_sent = λ c low. all_sent c ∙ ap length (sym (received_is c low));
    there = λ c _. there c;
    posted = λ c low. ap (sent_by none_sent (senders c)) (received_is c low) ∙ posted c;
    in_order = λ c d low. ap (sent_by (is_sent_by d) (senders c)) (received_is c low) ∙ in_order c d ∙ ap (sends_to c) (sym (sent_is d));
    serial = serial;
  }

-- the same for a frame that is known to be that of the states
pub kept_of : {A V M R : Type 0} (a : ActorWords A V M) (plan : Plan A M) (setup : Setup) (t : TrailWords (KeptState A M V) (Plan A M)) (colours : (s : KeptState A M V) → t.colour_of s ≡ s.log.colour) (frames : (s : KeptState A M V) → t.frame_of s ≡ s.plan)
    (fits : Plan A M → Colour → Event → Option (Load M) → Type 0) (fits_are : (c : Colour) (event : Event) (load : Option (Load M)) → fits plan c event load → FitsLoad (a.colours_of plan.actor) a.event_of (a.sound plan.actor) plan.posts.items c event load)
    (y : AppWords R (Load M) (KeptState A M V) (Plan A M)) (app : R) (runs_are : (before : KeptState A M V) (event : Event) (load : Option (Load M)) (after : KeptState A M V) (puts : List (Colour × Event × Option (Load M))) → y.runs app before event load after puts → Runs a before load after puts)
    (event : Event) (load : Option (Load M)) (firsts : List (KeptState A M V)) (histories : List (List Entry)) (states : List (KeptState A M V)) (values : List V) → posts_of load ≡ plan.posts.items → message_of load ≡ None → is_turn load ≡ false → AreMade a plan (colours_of setup) firsts → RanAll t setup (record { 0 = 0 }) event histories states
    → (frame : Plan A M) → frame ≡ plan → RanInOrder t fits y app setup frame (record { 0 = 0 }, event, load) firsts histories states → AreValues states values → AreKept a plan.actor setup plan.posts.items histories values
kept_of a plan setup t colours frames fits fits_are y app runs_are event load firsts histories states values posts no_message no_turn made ran frame of_frame order taken =
    are_kept a plan setup t colours frames fits fits_are y app runs_are event load posts no_message no_turn firsts histories states values made ran (subst (λ f. RanInOrder t fits y app setup f (record { 0 = 0 }, event, load) firsts histories states) of_frame order) taken
