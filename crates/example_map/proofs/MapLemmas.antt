-- Each item is posted to its own colour, which keeps what the task gives for it.
use Rattle.std.proofs.Common.{◌≡◌, ◌<◌, ◌≤◌, ◌+◌, ◌==◌, ℕ, zero, suc, Bool, List, [], ◌∷◌, ◌++◌, Option, None, Some, length, map, if◌then◌else◌, refl, sym, ◌∙◌, ap, subst, arith, inl, inr, eq-eqb, ne_eqb, append_assoc}
use Rattle.std.proofs.lemmas.Bool.{cases_eq}
use Rattle.std.proofs.lemmas.List.{length-append}
use Rattle.std.proofs.lemmas.List.Sums.{sum_by-cons}
use Rattle.std.proofs.lemmas.Option.{slice_get_within, same_Some}
use Rattle.std.specs.List.{AllByRecursion}
use Rattle.std.specs.Global.{Global}
use Rattle.std.specs.Prelude.{Result, Ok, Err, IfOk, Vec, slice_get}
use Rattle.mely_event.specs.declared.colour.Colour.{Colour}
use Rattle.mely_history.specs.declared.entry.Entry.{Entry}
use Rattle.mely_history.specs.declared.setup.Setup.{Setup}
use Rattle.mely_history.specs.Setup.{colours_of}
use Rattle.mely_weave.proofs.Wholes.DealLemmas.{seam_at}
use Rattle.mely_weave.proofs.Wholes.GatherLemmas.{get_there}
use Rattle.mely_actor.specs.declared.actor.Actor.{Ghosts as ActorWords}
use Rattle.mely_actor.specs.Received.{AreKept}
use Rattle.mely_actor.specs.Sending.{MaySend, count_to}
use Rattle.mely_actor.proofs.ListLemmas.{one_longer}
use Rattle.mely_actor.proofs.SilentLemmas.{silent_many, one_of, is_mapped}
use Rattle.example_map.specs.Mapped.{IsDone, numbered, one_event}

-- one item more has the next number
pub numbered_push : {M : Type 0} (place : ℕ) (xs : List M) (x : M) → numbered place (xs ++ x ∷ []) ≡ numbered place xs ++ (record { 0 = place + length xs }, x) ∷ []
numbered_push place [] x = ap (λ (n : ℕ). (record { 0 = n }, x) ∷ []) (let none : place ≡ place + 0 = omega arith in none)
numbered_push place (y ∷ xs) x =
    let here : place + 1 + length xs ≡ place + length (y ∷ xs) = omega arith in
    ap (λ l. (record { 0 = place }, y) ∷ l) (numbered_push (place + 1) xs x ∙ ap (λ (n : ℕ). numbered (place + 1) xs ++ (record { 0 = n }, x) ∷ []) here)

module _ {M : Type 0} (items : List M) where
  -- each may be sent to its colour
  may_from : (front xs : List M) (place : ℕ) → front ++ xs ≡ items → place ≡ length front → AllByRecursion (MaySend (length items) 2 (λ _. one_event) (λ c item. slice_get items c.0 ≡ Some item)) (numbered place xs)
  may_from front [] place split at = tt
  may_from front (x ∷ xs) place split at =
      let long = ap length split in
      let all = length-append front (x ∷ xs) in
      let is : slice_get items place ≡ Some x = ap (slice_get items) at ∙ ap (λ l. slice_get l (length front)) (sym split) ∙ seam_at front x xs in
      let more = one_longer front x in (
        record { there = slice_get_within items place x is; own = omega arith; row = omega arith; is_sound = is },
        may_from (front ++ x ∷ []) xs (place + 1) (append_assoc front (x ∷ []) xs ∙ split) (omega (arith, at, more)),
      )

  pub may_send : AllByRecursion (MaySend (length items) 2 (λ _. one_event) (λ c item. slice_get items c.0 ≡ Some item)) (numbered 0 items)
  may_send = may_from [] items 0 refl refl

-- 1 where the test is true
abbrev pub of_one : Bool → ℕ
of_one b = if b then 1 else 0

-- a colour behind is sent nothing, and each of the numbers one
count_one : {M : Type 0} (c : Colour) (place : ℕ) (x : M) (xs : List M) → count_to c (λ _. 1) (numbered place (x ∷ xs)) ≡ of_one (place == c.0) + count_to c (λ _. 1) (numbered (place + 1) xs)
count_one {M} c place x xs = sum_by-cons (λ (s : Colour × M). of_one (s.0.0 == c.0)) (record { 0 = place }, x) (numbered (place + 1) xs)

sent_none : {M : Type 0} (c : Colour) (place : ℕ) (xs : List M) → c.0 < place → count_to c (λ _. 1) (numbered place xs) ≡ 0
sent_none c place [] low = refl
sent_none c place (x ∷ xs) low =
    let rest = sent_none c (place + 1) xs (omega (arith, low)) in
    let here : of_one (place == c.0) ≡ 0 = ap of_one (ne_eqb place c.0 (λ e. omega (arith, e, low))) in
    let all = count_one c place x xs in
    omega (arith, rest, here, all)

sent_one : {M : Type 0} (c : Colour) (place : ℕ) (xs : List M) → place ≤ c.0 → c.0 < place + length xs → count_to c (λ _. 1) (numbered place xs) ≡ 1
sent_one c place [] low high = absurd (omega (arith, low, high))
sent_one c place (x ∷ xs) low high = elim (cases_eq place c.0) [
  | inl same ↦
      let rest = sent_none c (place + 1) xs (omega (arith, same)) in
      let here : of_one (place == c.0) ≡ 1 = ap of_one (eq-eqb place c.0 same) in
      let all = count_one c place x xs in
      omega (arith, rest, here, all)
  | inr apart ↦
      let rest = sent_one c (place + 1) xs (omega (arith, low, apart)) (let many : length (x ∷ xs) ≡ length xs + 1 = omega arith in omega (arith, high, many)) in
      let here : of_one (place == c.0) ≡ 0 = ap of_one (ne_eqb place c.0 apart) in
      let all = count_one c place x xs in
      omega (arith, rest, here, all)
]

module _ {A U M : Type 0} (a : ActorWords A (Option U) M) (of : M → U) (actor : A) (items : List M) (setup : Setup) (histories : List (List Entry)) (values : List (Option U)) (colours : colours_of setup ≡ length items)
    (sounds : (c : Colour) (item : M) → a.sound actor c item → slice_get items c.0 ≡ Some item) (keeps : (c : Colour) (received : List M) (sent : List (Colour × M)) (value : Option U) → a.kept actor c received sent value → IsDone of received sent value) (posts : List (Colour × M)) (posts_are : posts ≡ numbered 0 items) (kept : AreKept a actor setup posts histories values) where
  -- no colour sends anything
  silent : (d : Colour) → d.0 < colours_of setup → kept.sent d ≡ []
  silent d low =
      let many = kept.many in
      let value = get_there values d.0 (omega (arith, low, many)) in
      (keeps d (kept.received d) (kept.sent d) value.0 (kept.kept d value.0 value.1)).silent

  -- what each colour has is what the task gives for its item
  at_each : (k : ℕ) (item : M) (value : Option U) → slice_get items k ≡ Some item → slice_get values k ≡ Some value → value ≡ Some (of item)
  at_each k item value at there =
      let c : Colour = record { 0 = k } in
      let within = slice_get_within items k item at in
      let low : c.0 < colours_of setup = omega (arith, within, colours) in
      let many = silent_many a actor setup posts histories values kept silent c low ∙ ap (λ (l : List (Colour × M)). count_to c (λ _. 1) l) posts_are ∙ sent_one c 0 items (omega arith) (omega (arith, within)) in
      let one = one_of (kept.received c) many in
      let sound = subst (AllByRecursion (a.sound actor c)) one.1 (kept.sound c low) in
      let is : one.0 ≡ item = same_Some one.0 item (sym (sounds c one.0 sound.0) ∙ at) in
      (keeps c (kept.received c) (kept.sent c) value (kept.kept c value there)).done item (one.1 ∙ ap (λ (x : M). x ∷ []) is)

  pub all_done : values ≡ map (λ item. Some (of item)) items
  all_done = is_mapped (λ item. Some (of item)) values items (kept.many ∙ colours) at_each

-- what stands in options that are there
pub take_map : {M U : Type 0} (of : M → U) (outs : List U) (items : List M) → map (λ out. Some out) outs ≡ map (λ item. Some (of item)) items → outs ≡ map of items
take_map of [] [] same = refl
take_map of [] (item ∷ items) same = cc
take_map of (out ∷ outs) [] same = cc
take_map {M} {U} of (out ∷ outs) (item ∷ items) same =
    let here : out ≡ of item = cc in
    let more : map (λ o. Some o) outs ≡ map (λ (i : M). Some (of i)) items = cc in
    ap (λ (l : List U). out ∷ l) (take_map of outs items more) ∙ ap (λ o. o ∷ map of items) here

-- none of them is missing
pub none_missing : {M U : Type 0} (of : M → U) (values : List (Option U)) (items : List M) → values ≡ map (λ item. Some (of item)) items → (i : ℕ) (value : Option U) → slice_get values i ≡ Some value → value ≡ None → ⊥
none_missing of [] items same i value at none = cc
none_missing of (v ∷ values) [] same i value at none = cc
none_missing of (v ∷ values) (item ∷ items) same zero value at none = let one : v ≡ Some (of item) = cc in let other : v ≡ value = cc in cc
none_missing {M} of (v ∷ values) (item ∷ items) same (suc i) value at none = none_missing of values items (let more : values ≡ map (λ (x : M). Some (of x)) items = cc in more) i value at none

-- so it is of an answer with all that stood in options
pub take_all : {M U E : Type 0} (of : M → U) (values : List (Option U)) (items : List M) (answer : Result (Vec U Global) E) → values ≡ map (λ item. Some (of item)) items → IfOk answer (λ outs. map (λ out. Some out) outs.items ≡ values) → IfOk answer (λ outs. outs.items ≡ map of items)
take_all of values items (Ok outs) same taken = take_map of outs.items items (taken ∙ same)
take_all of values items (Err e) same taken = tt
