-- What the runs of one colour come to, one after another: what they received and sent, what they put
-- of it, and where nothing waits any more.
use Rattle.std.proofs.Common.{◌≡◌, ◌+◌, ◌*◌, ◌==◌, ℕ, Bool, true, false, List, [], ◌∷◌, ◌++◌, Option, None, Some, if◌then◌else◌, length, map, refl, sym, ◌∙◌, ap, subst, arith, append_assoc, eq-eqb, ne_eqb}
use Rattle.std.proofs.lemmas.List.{append-nil, length-append, map-append}
use Rattle.std.proofs.lemmas.List.Sums.{sum_by-append, sum_by-cons}
use Rattle.std.specs.List.{AllByRecursion, cons_option, flat_map}
use Rattle.std.specs.Prelude.{sum_by}
use Rattle.mely_event.specs.declared.colour.Colour.{Colour}
use Rattle.mely_event.specs.declared.event.Event.{Event}
use Rattle.mely_tally.specs.Account.{HandlerRun}
use Rattle.mely_chain.specs.Runs.{Follow, given_to, put_on, puts_of, puts_on}
use Rattle.mely_actor.specs.declared.actor.Actor.{Ghosts as ActorWords}
use Rattle.mely_actor.specs.declared.load.Load.{Load}
use Rattle.mely_actor.specs.declared.load.Load.TheVariants.{Posts, Message}
use Rattle.mely_actor.specs.declared.load.Plan.{Plan}
use Rattle.mely_actor.specs.KeptState.{KeptState}
use Rattle.mely_actor.specs.Loads.{IsPut, as_put, as_puts, is_turn, message_of, messages_of, turn_puts}
use Rattle.mely_actor.specs.Running.{Runs, Steps}
use Rattle.mely_actor.specs.Sending.{sends_to, turn_event}
use Rattle.mely_actor.specs.Waiting.{put_later, put_now, turn_is_put, turning}
use Rattle.mely_actor.proofs.NewsLemmas.{all-as, all-picked, all_news, as_news, messages-append, none-picked, own_news, picked-append, posted_news, posts-append, posts_in, posts_of, to-append}
use Rattle.mely_actor.proofs.ReceiptLemmas.{by_message, put_and_left, receipts_in, sends_are, sends_between, sends_by, sends_one}
use Rattle.mely_actor.proofs.RegisteredLemmas.{found, puts_append, sum_by-filter_map, sum_by-map}
use Rattle.mely_actor.proofs.WaitingLemmas.{of_some, of_true, one_turn, put_whole}

-- ---- numbers of loads

module _ {M : Type 0} where
  abbrev pub of_message : (M → ℕ) → Event × Option (Load M) → ℕ
  of_message number load = found number (message_of load.1)

  abbrev pub of_turn : Event × Option (Load M) → ℕ
  of_turn load = of_true (is_turn load.1)

if_none : (b : Bool) → (if b then 0 else 0) ≡ (let nothing : ℕ = 0 in nothing)
if_none true = refl
if_none false = refl

sum_none : {X : Type 0} (f : X → ℕ) (xs : List X) → ((x : X) → f x ≡ 0) → sum_by f xs ≡ 0
sum_none f [] none = refl
sum_none f (x ∷ xs) none = let rest = sum_none f xs none in let one = sum_by-cons f x xs in let here = none x in omega (arith, rest, one, here)

-- ---- what is put on a colour

module _ {M : Type 0} (b : Colour) (f : Event × Option (Load M) → ℕ) where
  -- the number of a put, where it is on the colour
  abbrev pub at_put : Colour × Event × Option (Load M) → ℕ
  at_put put = if put.0.0 == b.0 then f (put.1, put.2) else 0

  puts_sum : (puts : List (Colour × Event × Option (Load M))) → sum_by f (puts_on b puts) ≡ sum_by at_put puts
  puts_sum puts = sum_by-filter_map f (put_on b) puts ∙ same puts where
    one : (put : Colour × Event × Option (Load M)) → found f (put_on b put) ≡ at_put put
    one put = for (put.0.0 == b.0) where
      for : (own : Bool) → found f (if own then Some (put.1, put.2) else None) ≡ (if own then f (put.1, put.2) else 0)
      for true = refl
      for false = refl

    same : (puts : List (Colour × Event × Option (Load M))) → sum_by (λ put. found f (put_on b put)) puts ≡ sum_by at_put puts
    same [] = refl
    same (put ∷ puts) =
        let rest = same puts in
        let here = one put in
        let first = sum_by-cons (λ (p : Colour × Event × Option (Load M)). found f (put_on b p)) put puts in
        let other = sum_by-cons at_put put puts in
        omega (arith, rest, here, first, other)

  turn_sum : (c : Colour) (turn : Bool) → sum_by at_put (turn_puts c turn) ≡ (if c.0 == b.0 then f (turn_event, None) * of_true turn else 0)
  turn_sum c true =
      let one = sum_by-cons at_put (c, turn_event, None) [] in
      let same : f (turn_event, None) * 1 ≡ f (turn_event, None) = omega arith in
      let all = ap (λ (x : ℕ). if c.0 == b.0 then x else 0) same in
      omega (arith, one, all)
  turn_sum c false = let same : f (turn_event, None) * 0 ≡ 0 = omega arith in sym (ap (λ (x : ℕ). if c.0 == b.0 then x else 0) same ∙ if_none (c.0 == b.0))

  -- what is put of messages and of a turn
  put_sum : (event_of : M → Event) (c : Colour) (now : List (Colour × M)) (turn : Bool)
      → sum_by f (puts_on b (as_puts event_of now ++ turn_puts c turn)) ≡ sum_by (λ send. if send.0.0 == b.0 then f (event_of send.1, Some (Message send.1)) else 0) now + (if c.0 == b.0 then f (turn_event, None) * of_true turn else 0)
  put_sum event_of c now turn =
      let all = puts_sum (as_puts event_of now ++ turn_puts c turn) in
      let both = sum_by-append at_put (as_puts event_of now) (turn_puts c turn) in
      let first = sum_by-map at_put (as_put event_of) now in
      let last = turn_sum c turn in
      omega (arith, all, both, first, last)

module _ {M : Type 0} (b : Colour) where
  -- of messages and a turn the messages are put, and no posts
  messages_put : (event_of : M → Event) (sends : List (Colour × M)) → messages_of (puts_on b (as_puts event_of sends)) ≡ sends_to b sends
  messages_put event_of [] = refl
  messages_put event_of (send ∷ sends) = for (send.0.0 == b.0) (messages_put event_of sends) where
    for : (here : Bool) → messages_of (puts_on b (as_puts event_of sends)) ≡ sends_to b sends → messages_of (cons_option (if here then Some (event_of send.1, Some (Message send.1)) else None) (puts_on b (as_puts event_of sends))) ≡ cons_option (if here then Some send.1 else None) (sends_to b sends)
    for true rest = ap (λ l. send.1 ∷ l) rest
    for false rest = rest

  no_posts_put : (event_of : M → Event) (sends : List (Colour × M)) → posts_in (puts_on b (as_puts event_of sends)) ≡ []
  no_posts_put event_of [] = refl
  no_posts_put event_of (send ∷ sends) = for (send.0.0 == b.0) (no_posts_put event_of sends) where
    for : (here : Bool) → posts_in (puts_on b (as_puts event_of sends)) ≡ [] → posts_in (cons_option (if here then Some (event_of send.1, Some (Message send.1)) else None) (puts_on b (as_puts event_of sends))) ≡ []
    for true rest = rest
    for false rest = rest

  no_messages_in_turn : (c : Colour) (turn : Bool) → messages_of (puts_on b (turn_puts {M = M} c turn)) ≡ []
  no_messages_in_turn c false = refl
  no_messages_in_turn c true = for (c.0 == b.0) where
    for : (here : Bool) → messages_of {M = M} (cons_option (if here then Some (turn_event, None) else None) []) ≡ []
    for true = refl
    for false = refl

  no_posts_in_turn : (c : Colour) (turn : Bool) → posts_in (puts_on b (turn_puts {M = M} c turn)) ≡ []
  no_posts_in_turn c false = refl
  no_posts_in_turn c true = for (c.0 == b.0) where
    for : (here : Bool) → posts_in {M = M} (cons_option (if here then Some (turn_event, None) else None) []) ≡ []
    for true = refl
    for false = refl

  pub messages_both : (puts more : List (Colour × Event × Option (Load M))) → messages_of (puts_on b (puts ++ more)) ≡ messages_of (puts_on b puts) ++ messages_of (puts_on b more)
  messages_both puts more = ap messages_of (puts_append b puts more) ∙ messages-append (puts_on b puts) (puts_on b more)

  posts_both : (puts more : List (Colour × Event × Option (Load M))) → posts_in (puts_on b (puts ++ more)) ≡ posts_in (puts_on b puts) ++ posts_in (puts_on b more)
  posts_both puts more = ap posts_in (puts_append b puts more) ∙ posts-append (puts_on b puts) (puts_on b more)

-- ---- one run

module _ {A V M : Type 0} (a : ActorWords A V M) (plan : Plan A M) (c : Colour) where
  abbrev pub Keeps : List M → List (Colour × M) → V → Type 0
  Keeps received sent value = a.kept plan.actor c received sent value

  moved : (p q : Plan A M) (d e : Colour) (received : List M) (sent : List (Colour × M)) (value : V) → p ≡ q → d ≡ e → a.kept p.actor d received sent value → a.kept q.actor e received sent value
  moved p q d e received sent value plans colours kept = subst (λ (x : Plan A M). a.kept x.actor e received sent value) plans (subst (λ x. a.kept p.actor x received sent value) colours kept)

  -- what one run comes to: what it sends, what it keeps, and what it puts
  pub record One (before after : KeptState A M V) (event : Event) (load : Option (Load M)) (puts : List (Colour × Event × Option (Load M))) : Type 0 where
    pub news : List (Bool × (Colour × M))
    pub count : after.count ≡ before.count + length (messages_of ((event, load) ∷ []))
    pub keeps : (received : List M) (sent : List (Colour × M)) → length received ≡ before.count → Keeps received sent before.value → Keeps (received ++ messages_of ((event, load) ∷ [])) (sent ++ own_news news) after.value
    pub own : own_news news ≡ by_message load (sends_between before.waiting puts after.waiting)
    pub posts : posted_news news ≡ posts_of load
    pub sends : (b : Colour) → messages_of (puts_on b puts) ++ sends_to b after.waiting ≡ sends_to b before.waiting ++ sends_to b (all_news news)
    pub no_posts : (b : Colour) → posts_in (puts_on b puts) ≡ []
    pub turns : sum_by of_turn (puts_on c puts) + of_some before.waiting ≡ of_some after.waiting + of_true (is_turn load)
    pub no_turns : (b : Colour) → (c.0 ≡ b.0 → ⊥) → sum_by of_turn (puts_on b puts) ≡ 0

  module _ (before after : KeptState A M V) (turn : Bool) (new : List (Colour × M)) (puts : List (Colour × Event × Option (Load M)))
      (put : IsPut a.event_of c (turning turn before.waiting) (turn_is_put turn before.waiting (before.waiting ++ new)) (before.waiting ++ new) after.waiting puts) where
    abbrev all : List (Colour × M)
    all = before.waiting ++ new

    abbrev now : List (Colour × M)
    now = put_now (turning turn before.waiting) all

    abbrev is_put : Bool
    is_put = turn_is_put turn before.waiting all

    sum_is : (b : Colour) (f : Event × Option (Load M) → ℕ) → sum_by f (puts_on b puts) ≡ sum_by (λ send. if send.0.0 == b.0 then f (a.event_of send.1, Some (Message send.1)) else 0) now + (if c.0 == b.0 then f (turn_event, None) * of_true is_put else 0)
    sum_is b f = ap (λ l. sum_by f (puts_on b l)) put.puts_are ∙ put_sum b f a.event_of c now is_put

    one_sends : (b : Colour) → messages_of (puts_on b puts) ++ sends_to b after.waiting ≡ sends_to b before.waiting ++ sends_to b new
    one_sends b =
        let later = put_later (turning turn before.waiting) all in
        ap (λ l. messages_of (puts_on b l) ++ sends_to b after.waiting) put.puts_are
        ∙ ap (λ l. l ++ sends_to b after.waiting) (messages_both b (as_puts a.event_of now) (turn_puts c is_put) ∙ ap (λ l. l ++ messages_of (puts_on b (turn_puts c is_put))) (messages_put b a.event_of now) ∙ ap (λ l. sends_to b now ++ l) (no_messages_in_turn b c is_put) ∙ append-nil (sends_to b now))
        ∙ ap (λ l. sends_to b now ++ sends_to b l) put.left_is
        ∙ sym (to-append b now later) ∙ ap (sends_to b) (put_whole (turning turn before.waiting) all) ∙ to-append b before.waiting new

    one_no_posts : (b : Colour) → posts_in (puts_on b puts) ≡ []
    one_no_posts b =
        ap (λ l. posts_in (puts_on b l)) put.puts_are
        ∙ posts_both b (as_puts a.event_of now) (turn_puts c is_put) ∙ ap (λ l. l ++ posts_in (puts_on b (turn_puts c is_put))) (no_posts_put b a.event_of now) ∙ no_posts_in_turn b c is_put

    one_turns : (turn ≡ true → new ≡ []) → sum_by of_turn (puts_on c puts) + of_some before.waiting ≡ of_some after.waiting + of_true turn
    one_turns none =
        let puts_are = sum_is c of_turn in
        let nothing = sum_none (λ (send : Colour × M). if send.0.0 == c.0 then 0 else 0) now (λ send. if_none (send.0.0 == c.0)) in
        let here : (if c.0 == c.0 then 1 * of_true is_put else 0) ≡ 1 * of_true is_put = ap (λ (b : Bool). if b then 1 * of_true is_put else 0) (eq-eqb c.0 c.0 refl) in
        let left = ap of_some put.left_is in
        let one = one_turn turn before.waiting new none in
        omega (arith, puts_are, nothing, here, left, one)

    one_no_turns : (b : Colour) → (c.0 ≡ b.0 → ⊥) → sum_by of_turn (puts_on b puts) ≡ 0
    one_no_turns b apart =
        let puts_are = sum_is b of_turn in
        let nothing = sum_none (λ (send : Colour × M). if send.0.0 == b.0 then 0 else 0) now (λ send. if_none (send.0.0 == b.0)) in
        let far : (if c.0 == b.0 then 1 * of_true is_put else 0) ≡ 0 = ap (λ (own : Bool). if own then 1 * of_true is_put else 0) (ne_eqb c.0 b.0 apart) in
        omega (arith, puts_are, nothing, far)

  placed : (before after : KeptState A M V) (load : Option (Load M)) (puts : List (Colour × Event × Option (Load M))) → before.log.colour ≡ c → (step : Steps a before load after puts) → IsPut a.event_of c (turning (is_turn load) before.waiting) (turn_is_put (is_turn load) before.waiting (before.waiting ++ step.sends)) (before.waiting ++ step.sends) after.waiting puts
  placed before after load puts of_colour step = subst (λ d. IsPut a.event_of d (turning (is_turn load) before.waiting) (turn_is_put (is_turn load) before.waiting (before.waiting ++ step.sends)) (before.waiting ++ step.sends) after.waiting puts) of_colour step.put

  pub one_of : (before after : KeptState A M V) (event : Event) (load : Option (Load M)) (puts : List (Colour × Event × Option (Load M))) → before.plan ≡ plan → before.log.colour ≡ c → Steps a before load after puts → One before after event load puts
  one_of before after event (Some (Posts all)) puts of_plan of_colour step =
      let put = placed before after (Some (Posts all)) puts of_colour step in
      record {
        news = as_news false step.sends;
        count = let same = step.does.counts in omega (arith, same);
        keeps = λ received sent long kept.
            subst (λ v. Keeps (received ++ []) (sent ++ own_news (as_news false step.sends)) v) (sym step.does.keeps)
            (subst (λ r. Keeps r (sent ++ own_news (as_news false step.sends)) before.value) (sym (append-nil received)) (subst (λ s. Keeps received s before.value) (sym (ap (λ l. sent ++ l) (none-picked false step.sends) ∙ append-nil sent)) kept));
        own = none-picked false step.sends;
        posts = all-picked false step.sends ∙ step.does.sends_are;
        sends = λ b. one_sends before after false step.sends puts put b ∙ ap (λ l. sends_to b before.waiting ++ sends_to b l) (sym (all-as false step.sends));
        no_posts = one_no_posts before after false step.sends puts put;
        turns = one_turns before after false step.sends puts put (λ no. cc);
        no_turns = one_no_turns before after false step.sends puts put;
      }
  one_of before after event (Some (Message message)) puts of_plan of_colour step =
      let put = placed before after (Some (Message message)) puts of_colour step in
      record {
        news = as_news true step.sends;
        count = let more = step.does.counts in let one : length (message ∷ []) ≡ 1 = refl in omega (arith, more, one);
        keeps = λ received sent long kept.
            subst (λ s. Keeps (received ++ message ∷ []) (sent ++ s) after.value) (sym (all-picked true step.sends))
            (moved before.plan plan before.log.colour c (received ++ message ∷ []) (sent ++ step.sends) after.value of_plan of_colour
            (step.does.keeps received sent long (moved plan before.plan c before.log.colour received sent before.value (sym of_plan) (sym of_colour) kept)));
        own = all-picked true step.sends ∙ sym (sends_are before.waiting puts after.waiting step.sends (put_and_left a.event_of c _ _ (before.waiting ++ step.sends) after.waiting puts put));
        posts = none-picked true step.sends;
        sends = λ b. one_sends before after false step.sends puts put b ∙ ap (λ l. sends_to b before.waiting ++ sends_to b l) (sym (all-as true step.sends));
        no_posts = one_no_posts before after false step.sends puts put;
        turns = one_turns before after false step.sends puts put (λ no. cc);
        no_turns = one_no_turns before after false step.sends puts put;
      }
  one_of before after event None puts of_plan of_colour step =
      let put = placed before after None puts of_colour step in
      record {
        news = [];
        count = let same = step.does.counts in omega (arith, same);
        keeps = λ received sent long kept.
            subst (λ v. Keeps (received ++ []) (sent ++ []) v) (sym step.does.keeps)
            (subst (λ r. Keeps r (sent ++ []) before.value) (sym (append-nil received)) (subst (λ s. Keeps received s before.value) (sym (append-nil sent)) kept));
        own = refl;
        posts = refl;
        sends = λ b. one_sends before after true step.sends puts put b ∙ ap (λ l. sends_to b before.waiting ++ sends_to b l) step.does.sends_are;
        no_posts = one_no_posts before after true step.sends puts put;
        turns = one_turns before after true step.sends puts put (λ yes. step.does.sends_are);
        no_turns = one_no_turns before after true step.sends puts put;
      }

  -- ---- all of them

  -- a run of these actors on the colour
  pub record IsOn (run : HandlerRun (KeptState A M V) (Load M)) : Type 0 where
    pub of_plan : run.state.plan ≡ plan
    pub of_colour : run.state.log.colour ≡ c
    pub does : Runs a run.state run.load run.becomes run.puts

  pub record Through (from to : KeptState A M V) (runs : List (HandlerRun (KeptState A M V) (Load M))) : Type 0 where
    pub well : from.failed ≡ false
    pub news : List (Bool × (Colour × M))
    pub keeps : (received : List M) (was : List (Colour × M)) → length received ≡ from.count → Keeps received was from.value → Keeps (received ++ messages_of (map given_to runs)) (was ++ own_news news) to.value
    pub own : own_news news ≡ flat_map (λ receipt. receipt.sends) (receipts_in runs)
    pub posts : posted_news news ≡ posts_in (map given_to runs)
    pub sends : (b : Colour) → messages_of (puts_on b (puts_of runs)) ++ sends_to b to.waiting ≡ sends_to b from.waiting ++ sends_to b (all_news news)
    pub no_posts : (b : Colour) → posts_in (puts_on b (puts_of runs)) ≡ []
    pub turns : sum_by (λ run. sum_by of_turn (puts_on c run.puts)) runs + of_some from.waiting ≡ of_some to.waiting + sum_by of_turn (map given_to runs)
    pub no_turns : (b : Colour) → (c.0 ≡ b.0 → ⊥) → sum_by (λ run. sum_by of_turn (puts_on b run.puts)) runs ≡ 0

  none_left : (to : KeptState A M V) → to.failed ≡ false → Through to to []
  none_left to well = record {
    well = well;
    news = [];
    keeps = λ received was long kept. subst (λ r. Keeps r (was ++ []) to.value) (sym (append-nil received)) (subst (λ s. Keeps received s to.value) (sym (append-nil was)) kept);
    own = refl;
    posts = refl;
    sends = λ b. sym (append-nil (sends_to b to.waiting));
    no_posts = λ b. refl;
    turns = omega arith;
    no_turns = λ b apart. refl;
  }

  one_more : (to : KeptState A M V) (run : HandlerRun (KeptState A M V) (Load M)) (later : List (HandlerRun (KeptState A M V) (Load M))) → run.state.failed ≡ false → One run.state run.becomes run.event run.load run.puts → Through run.becomes to later → Through run.state to (run ∷ later)
  one_more to run later well one rest = record {
    well = well;
    news = one.news ++ rest.news;
    keeps = λ received was long kept.
        let mine = messages_of (given_to run ∷ []) in
        let all : mine ++ messages_of (map given_to later) ≡ messages_of (map given_to (run ∷ later)) = sym (messages-append (given_to run ∷ []) (map given_to later)) in
        let longer : length (received ++ mine) ≡ run.becomes.count = (let both = length-append received mine in let count = one.count in omega (arith, both, count, long)) in
        subst (λ s. Keeps (received ++ messages_of (map given_to (run ∷ later))) s to.value) (append_assoc was (own_news one.news) (own_news rest.news) ∙ ap (λ l. was ++ l) (sym (picked-append true false one.news rest.news)))
        (subst (λ r. Keeps r ((was ++ own_news one.news) ++ own_news rest.news) to.value) (append_assoc received mine (messages_of (map given_to later)) ∙ ap (λ l. received ++ l) all)
        (rest.keeps (received ++ mine) (was ++ own_news one.news) longer (one.keeps received was long kept)));
    own = picked-append true false one.news rest.news ∙ ap (λ l. l ++ own_news rest.news) one.own ∙ ap (λ l. by_message run.load (sends_by run) ++ l) rest.own ∙ sym (sends_one run (receipts_in later) run.load);
    posts = picked-append false true one.news rest.news ∙ ap (λ l. l ++ posted_news rest.news) one.posts ∙ ap (λ l. posts_of run.load ++ l) rest.posts;
    sends = λ b.
        let was = sends_to b run.state.waiting in
        let between = sends_to b run.becomes.waiting in
        let left = sends_to b to.waiting in
        let puts = messages_of (puts_on b run.puts) in
        let more = messages_of (puts_on b (puts_of later)) in
        let first = sends_to b (all_news one.news) in
        let others = sends_to b (all_news rest.news) in
        ap (λ l. l ++ left) (messages_both b run.puts (puts_of later)) ∙ append_assoc puts more left ∙ ap (λ l. puts ++ l) (rest.sends b)
        ∙ sym (append_assoc puts between others) ∙ ap (λ l. l ++ others) (one.sends b) ∙ append_assoc was first others
        ∙ ap (λ l. was ++ l) (sym (to-append b (all_news one.news) (all_news rest.news)) ∙ ap (sends_to b) (sym (map-append (λ (n : Bool × (Colour × M)). n.1) one.news rest.news)));
    no_posts = λ b. posts_both b run.puts (puts_of later) ∙ ap (λ l. l ++ posts_in (puts_on b (puts_of later))) (one.no_posts b) ∙ rest.no_posts b;
    turns =
        let here = one.turns in
        let others = rest.turns in
        let puts = sum_by-cons (λ (r : HandlerRun (KeptState A M V) (Load M)). sum_by of_turn (puts_on c r.puts)) run later in
        let loads = sum_by-cons of_turn (given_to run) (map given_to later) in
        omega (arith, here, others, puts, loads);
    no_turns = λ b apart.
        let here = one.no_turns b apart in
        let others = rest.no_turns b apart in
        let puts = sum_by-cons (λ (r : HandlerRun (KeptState A M V) (Load M)). sum_by of_turn (puts_on b r.puts)) run later in
        omega (arith, here, others, puts);
  }

  pub through : (from to : KeptState A M V) (runs : List (HandlerRun (KeptState A M V) (Load M))) → AllByRecursion IsOn runs → Follow from runs to → to.failed ≡ false → Through from to runs
  through from to [] each follow well = subst (λ s. Through s to []) follow (none_left to well)
  through from to (run ∷ later) each follow well =
      let rest = through run.becomes to later each.1 follow.1 well in
      let step = each.0.does rest.well in
      let one = one_of run.state run.becomes run.event run.load run.puts each.0.of_plan each.0.of_colour step in
      subst (λ s. Through s to (run ∷ later)) follow.0 (one_more to run later step.well one rest)
