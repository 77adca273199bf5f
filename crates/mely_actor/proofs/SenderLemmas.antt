-- Who sent each message that came to a colour: of what each colour put there, in its order, the next.
use Rattle.std.proofs.Common.{◌≡◌, ◌<◌, ◌≤◌, ◌==◌, ℕ, suc, Bool, true, false, List, [], ◌∷◌, ◌++◌, Option, Some, None, if◌then◌else◌, length, map, refl, sym, ◌∙◌, ap, subst, inl, inr, eq-eqb, ne_eqb}
use Rattle.std.proofs.lemmas.Bool.{cases_eq, cases_lt}
use Rattle.std.specs.List.{AllByRecursion, cons_option, filter_map}
use Rattle.mely_event.specs.declared.colour.Colour.{Colour}
use Rattle.mely_event.specs.declared.event.Event.{Event}
use Rattle.mely_history.proofs.LegalAccountLemmas.{same_colour}
use Rattle.mely_cause.specs.Causes.{Registration, put_by_colour, put_first}
use Rattle.mely_actor.specs.declared.load.Load.{Load}
use Rattle.mely_actor.specs.Loads.{message_of, messages_of}
use Rattle.mely_actor.specs.Sending.{IsThere, sends_to, sent_by}
use Rattle.mely_actor.proofs.NewsLemmas.{passing, posts_in, posts_of, sender_of}

module _ {M : Type 0} where
  -- whether a message sent the next one, and the others behind it
  abbrev next_own : List (Bool × M) → Bool
  next_own [] = false
  next_own (one ∷ some) = one.0

  abbrev behind : List (Bool × M) → List (Bool × M)
  behind [] = []
  behind (one ∷ some) = some

  -- the same lists, but for that of one colour
  abbrev with_now : (Colour → List (Bool × M)) → Colour → List (Bool × M) → Colour → List (Bool × M)
  with_now q d some e = if d.0 == e.0 then some else q e

  -- of messages, each with the colour that put it, those who sent them
  abbrev pub senders_of : (Colour → List (Bool × M)) → List (Colour × M) → List (Option Colour)
  senders_of q [] = []
  senders_of q (came ∷ more) = sender_of came.0 (next_own (q came.0)) ∷ senders_of (with_now q came.0 (behind (q came.0))) more

  pub many-senders : (q : Colour → List (Bool × M)) (came : List (Colour × M)) → length (senders_of q came) ≡ length came
  many-senders q [] = refl
  many-senders q (one ∷ more) = ap suc (many-senders (with_now q one.0 (behind (q one.0))) more)

  module _ (q : Colour → List (Bool × M)) (d : Colour) (some : List (Bool × M)) where
    now_same : (e : Colour) → d.0 ≡ e.0 → with_now q d some e ≡ some
    now_same e same = ap (λ b. if b then some else q e) (eq-eqb d.0 e.0 same)

    now_other : (e : Colour) → (d.0 ≡ e.0 → ⊥) → with_now q d some e ≡ q e
    now_other e apart = ap (λ b. if b then some else q e) (ne_eqb d.0 e.0 apart)

  to_same : (d : Colour) (came : Colour × M) (more : List (Colour × M)) → came.0.0 ≡ d.0 → sends_to d (came ∷ more) ≡ came.1 ∷ sends_to d more
  to_same d came more same = ap (λ b. cons_option (if b then Some came.1 else None) (sends_to d more)) (eq-eqb came.0.0 d.0 same)

  to_other : (d : Colour) (came : Colour × M) (more : List (Colour × M)) → (came.0.0 ≡ d.0 → ⊥) → sends_to d (came ∷ more) ≡ sends_to d more
  to_other d came more apart = ap (λ b. cons_option (if b then Some came.1 else None) (sends_to d more)) (ne_eqb came.0.0 d.0 apart)

  nothing_left : (some : List (Bool × M)) → map (λ one. one.1) some ≡ [] → some ≡ []
  nothing_left [] is = refl
  nothing_left (one ∷ some) is = cc

  record Next (some : List (Bool × M)) (m : M) (more : List M) : Type 0 where
    own : Bool
    rest : List (Bool × M)
    is : some ≡ (own, m) ∷ rest
    left : map (λ one. one.1) rest ≡ more

  next_of : (some : List (Bool × M)) (m : M) (more : List M) → map (λ one. one.1) some ≡ m ∷ more → Next some m more
  next_of [] m more is = cc
  next_of ((own, n) ∷ rest) m more is = record {
    own = own;
    rest = rest;
    is = let same : n ≡ m = cc in ap (λ k. (own, k) ∷ rest) same;
    left = cc;
  }

  module _ (test : Option Colour → Bool) where
    none_behind : (d : Colour) (own : Bool) (m : M) (rest : List (Bool × M)) → passing test d ((own, m) ∷ rest) ≡ [] → passing test d rest ≡ []
    none_behind d own m rest = for (test (sender_of d own)) where
      for : (b : Bool) → cons_option (if b then Some m else None) (passing test d rest) ≡ [] → passing test d rest ≡ []
      for true is = cc
      for false is = is

    none_passes : (d : Colour) (own : Bool) (m : M) (rest : List (Bool × M)) → passing test d ((own, m) ∷ rest) ≡ [] → test (sender_of d own) ≡ false
    none_passes d own m rest = for (test (sender_of d own)) where
      for : (b : Bool) → cons_option (if b then Some m else None) (passing test d rest) ≡ [] → b ≡ false
      for true is = cc
      for false is = refl

    if_passes : (b : Bool) (m : M) (some : List M) → (if b then m ∷ some else some) ≡ cons_option (if b then Some m else None) some
    if_passes true m some = refl
    if_passes false m some = refl

    abbrev Quiet : Colour → (Colour → List (Bool × M)) → Type 0
    Quiet e q = (d : Colour) → (d.0 ≡ e.0 → ⊥) → passing test d (q d) ≡ []

    abbrev Are : (Colour → List (Bool × M)) → List (Colour × M) → Type 0
    Are q came = (d : Colour) → map (λ one. one.1) (q d) ≡ sends_to d came

    module _ (e : Colour) (q : Colour → List (Bool × M)) (came : Colour × M) (more : List (Colour × M)) (are : Are q (came ∷ more)) (quiet : Quiet e q) where
      next : Next (q came.0) came.1 (sends_to came.0 more)
      next = next_of (q came.0) came.1 (sends_to came.0 more) (are came.0 ∙ to_same came.0 came more refl)

      abbrev now : Colour → List (Bool × M)
      now = with_now q came.0 (behind (q came.0))

      now_is : (d : Colour) → came.0.0 ≡ d.0 → now d ≡ next.rest
      now_is d same = now_same q came.0 (behind (q came.0)) d same ∙ ap behind next.is

      was : (d : Colour) → came.0.0 ≡ d.0 → q d ≡ (next.own, came.1) ∷ next.rest
      was d same = ap q (sym (same_colour came.0 d same)) ∙ next.is

      still_are : Are now more
      still_are d = elim (cases_eq came.0.0 d.0) [
        | inl same ↦ ap (λ l. map (λ one. one.1) l) (now_is d same) ∙ next.left ∙ ap (λ x. sends_to x more) (same_colour came.0 d same)
        | inr apart ↦ ap (λ l. map (λ one. one.1) l) (now_other q came.0 (behind (q came.0)) d apart) ∙ are d ∙ to_other d came more apart
      ]

      still_quiet : Quiet e now
      still_quiet d far = elim (cases_eq came.0.0 d.0) [
        | inl same ↦ ap (passing test d) (now_is d same) ∙ none_behind d next.own came.1 next.rest (ap (passing test d) (sym (was d same)) ∙ quiet d far)
        | inr apart ↦ ap (passing test d) (now_other q came.0 (behind (q came.0)) d apart) ∙ quiet d far
      ]

      first : (some : List M) → some ≡ passing test e (now e) → (if test (sender_of came.0 (next_own (q came.0))) then came.1 ∷ some else some) ≡ passing test e (q e)
      first some is = ap (λ l. if test (sender_of came.0 (next_own l)) then came.1 ∷ some else some) next.is ∙ ap (λ l. if test (sender_of came.0 next.own) then came.1 ∷ l else l) is ∙ elim (cases_eq came.0.0 e.0) [
        | inl same ↦
            ap (λ l. if test (sender_of came.0 next.own) then came.1 ∷ l else l) (ap (passing test e) (now_is e same))
            ∙ if_passes (test (sender_of came.0 next.own)) came.1 (passing test e next.rest)
            ∙ ap (λ d. cons_option (if test (sender_of d next.own) then Some came.1 else None) (passing test e next.rest)) (same_colour came.0 e same)
            ∙ ap (passing test e) (sym (was e same))
        | inr apart ↦
            ap (λ b. if b then came.1 ∷ passing test e (now e) else passing test e (now e)) (none_passes came.0 next.own came.1 next.rest (ap (passing test came.0) (sym (was came.0 refl)) ∙ quiet came.0 apart))
            ∙ ap (passing test e) (now_other q came.0 (behind (q came.0)) e apart)
      ]

    -- where only what one colour put has such a sender, it is in its order what comes of such
    pub merged : (e : Colour) (q : Colour → List (Bool × M)) (came : List (Colour × M)) → Are q came → Quiet e q → sent_by test (senders_of q came) (map (λ one. one.1) came) ≡ passing test e (q e)
    merged e q [] are quiet = sym (ap (passing test e) (nothing_left (q e) (are e)))
    merged e q (one ∷ more) are quiet = first e q one more are quiet _ (merged e (with_now q one.0 (behind (q one.0))) more (still_are e q one more are quiet) (still_quiet e q one more are quiet))

  -- ---- senders are colours that there are

  nothing_behind : (d : Colour) (one : Colour × M) (more : List (Colour × M)) → sends_to d (one ∷ more) ≡ [] → sends_to d more ≡ []
  nothing_behind d one more = for (one.0.0 == d.0) where
    for : (own : Bool) → cons_option (if own then Some one.1 else None) (sends_to d more) ≡ [] → sends_to d more ≡ []
    for true is = cc
    for false is = is

  -- where nothing came from beyond so many colours, all came from one of them
  pub came-there : (n : ℕ) (came : List (Colour × M)) → ((d : Colour) → n ≤ d.0 → sends_to d came ≡ []) → AllByRecursion (λ one. one.0.0 < n) came
  came-there n [] none = tt
  came-there n (one ∷ more) none = (
    elim (cases_lt one.0.0 n) [
      | inl low ↦ low
      | inr high ↦ absurd (let some = to_same one.0 one more refl in let nothing = none one.0 high in cc)
    ],
    came-there n more (λ d high. nothing_behind d one more (none d high)),
  )

  pub senders-there : (n : ℕ) (q : Colour → List (Bool × M)) (came : List (Colour × M)) → AllByRecursion (λ one. one.0.0 < n) came → AllByRecursion (IsThere n) (senders_of q came)
  senders-there n q [] there = tt
  senders-there n q (one ∷ more) there = (for (next_own (q one.0)), senders-there n (with_now q one.0 (behind (q one.0))) more there.1) where
    for : (own : Bool) → IsThere n (sender_of one.0 own)
    for true = there.0
    for false = tt

  -- ---- what came, by whom it was put

  -- a message with the colour that put it
  abbrev from_of : Option (Colour × ℕ) → Option M → Option (Colour × M)
  from_of None m = None
  from_of (Some run) None = None
  from_of (Some run) (Some m) = Some (run.0, m)

  abbrev pub came_from : List (Registration (Load M)) → List (Colour × M)
  came_from came = filter_map (λ one. from_of one.cause (message_of one.event.1)) came

  module _ (one : Registration (Load M)) (froms : List (Colour × M)) where
    cons_if : (b : Bool) (m : M) (some : List M) → cons_option (if b then Some m else None) some ≡ (if b then m ∷ some else some)
    cons_if true m some = refl
    cons_if false m some = refl

    either : (b : Bool) (some : List M) → some ≡ (if b then some else some)
    either true some = refl
    either false some = refl

    module _ (d : Colour) (puts : List (Event × Option (Load M))) (rest : sends_to d froms ≡ messages_of puts) where
      froms_more : (run : Colour × ℕ) (m : Option M) → sends_to d (cons_option (from_of (Some run) m) froms) ≡ (if run.0.0 == d.0 then cons_option m (sends_to d froms) else sends_to d froms)
      froms_more run None = either (run.0.0 == d.0) (sends_to d froms)
      froms_more run (Some m) = cons_if (run.0.0 == d.0) m (sends_to d froms)

      puts_more : (b : Bool) → (if b then cons_option (message_of one.event.1) (sends_to d froms) else sends_to d froms) ≡ messages_of (cons_option (if b then Some one.event else None) puts)
      puts_more true = ap (cons_option (message_of one.event.1)) rest
      puts_more false = rest

      by_more : (cause : Option (Colour × ℕ)) → sends_to d (cons_option (from_of cause (message_of one.event.1)) froms) ≡ messages_of (cons_option (put_by_colour d (record one { cause = cause })) puts)
      by_more None = rest
      by_more (Some run) = froms_more run (message_of one.event.1) ∙ puts_more (run.0.0 == d.0)

    all_more : (firsts later : List (Event × Option (Load M))) (cause : Option (Colour × ℕ)) → messages_of (cons_option (put_first (record one { cause = cause })) firsts) ≡ [] → (messages_of firsts ≡ [] → map (λ m. m.1) froms ≡ messages_of later)
        → map (λ m. m.1) (cons_option (from_of cause (message_of one.event.1)) froms) ≡ messages_of (one.event ∷ later)
    all_more firsts later None none rest = without (message_of one.event.1) none where
      without : (m : Option M) → cons_option m (messages_of firsts) ≡ [] → map (λ m. m.1) froms ≡ cons_option m (messages_of later)
      without None is = rest is
      without (Some m) is = cc
    all_more firsts later (Some run) none rest = with (message_of one.event.1) where
      with : (m : Option M) → map (λ m. m.1) (cons_option (from_of (Some run) m) froms) ≡ cons_option m (messages_of later)
      with None = rest none
      with (Some m) = ap (λ l. m ∷ l) (rest none)

  -- what a colour put, in its order
  pub by-colour : (d : Colour) (came : List (Registration (Load M))) → sends_to d (came_from came) ≡ messages_of (filter_map (put_by_colour d) came)
  by-colour d [] = refl
  by-colour d (one ∷ came) = by_more one (came_from came) d (filter_map (put_by_colour d) came) (by-colour d came) one.cause

  -- each message was put, where that of the first event isn't one
  pub all-came : (came : List (Registration (Load M))) → messages_of (filter_map put_first came) ≡ [] → map (λ m. m.1) (came_from came) ≡ messages_of (map (λ one. one.event) came)
  all-came [] none = refl
  all-came (one ∷ came) none = all_more one (came_from came) (filter_map put_first came) (map (λ r. r.event) came) one.cause none (all-came came)

  -- ---- posts

  left_empty : (posts more : List (Colour × M)) → posts ++ more ≡ [] → posts ≡ []
  left_empty [] more is = refl
  left_empty (post ∷ posts) more is = cc

  right_empty : (posts more : List (Colour × M)) → posts ++ more ≡ [] → more ≡ []
  right_empty [] more is = is
  right_empty (post ∷ posts) more is = cc

  module _ (one : Registration (Load M)) where
    none_rest : (d : Colour) (puts : List (Event × Option (Load M))) (cause : Option (Colour × ℕ)) → posts_in (cons_option (put_by_colour d (record one { cause = cause })) puts) ≡ [] → posts_in puts ≡ []
    none_rest d puts None is = is
    none_rest d puts (Some run) is = for (run.0.0 == d.0) is where
      for : (here : Bool) → posts_in (cons_option (if here then Some one.event else None) puts) ≡ [] → posts_in puts ≡ []
      for true is = right_empty (posts_of one.event.1) (posts_in puts) is
      for false is = is

    posts_more : (puts : Colour → List (Event × Option (Load M))) (firsts later : List (Event × Option (Load M))) (cause : Option (Colour × ℕ)) → ((d : Colour) → posts_in (cons_option (put_by_colour d (record one { cause = cause })) (puts d)) ≡ []) → posts_in later ≡ posts_in firsts
        → posts_in (one.event ∷ later) ≡ posts_in (cons_option (put_first (record one { cause = cause })) firsts)
    posts_more puts firsts later None bare rest = ap (λ l. posts_of one.event.1 ++ l) rest
    posts_more puts firsts later (Some run) bare rest =
        let own : posts_in (cons_option (if true then Some one.event else None) (puts run.0)) ≡ [] = subst (λ b. posts_in (cons_option (if b then Some one.event else None) (puts run.0)) ≡ []) (eq-eqb run.0.0 run.0.0 refl) (bare run.0) in
        ap (λ l. l ++ posts_in later) (left_empty (posts_of one.event.1) (posts_in (puts run.0)) own) ∙ rest

  -- where nobody puts posts, they came with the first event
  pub posts-came : (came : List (Registration (Load M))) → ((d : Colour) → posts_in (filter_map (put_by_colour d) came) ≡ []) → posts_in (map (λ one. one.event) came) ≡ posts_in (filter_map put_first came)
  posts-came [] bare = refl
  posts-came (one ∷ came) bare = posts_more one (λ d. filter_map (put_by_colour d) came) (filter_map put_first came) (map (λ r. r.event) came) one.cause bare (posts-came came (λ d. none_rest one d (filter_map (put_by_colour d) came) one.cause (bare d)))
