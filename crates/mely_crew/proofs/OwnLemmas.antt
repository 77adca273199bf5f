-- What the entries of one pass count, along a history.
use Rattle.std.proofs.Common.{◌≡◌, ◌≢◌, ℕ, zero, suc, ◌+◌, ◌<◌, ◌≤◌, ◌==◌, Bool, true, false, List, [], ◌∷◌, ◌++◌, if◌then◌else◌, refl, sym, ◌∙◌, ap, arith, inl, inr, eq-eqb, ne_eqb}
use Rattle.std.proofs.lemmas.Bool.{cases_eq, cases_lt}
use Rattle.mely_history.specs.declared.entry.Entry.{Entry}
use Rattle.mely_history.specs.Entries.{pass_of, entries_by}
use Rattle.mely_history.proofs.OwingLemmas.{others_first}
use Rattle.mely_lock.specs.Seen.{OthersSince}
use Rattle.mely_tally.specs.Account.{sum_along}
use Rattle.mely_tally.proofs.AlongLemmas.{along-append, along-push}
use Rattle.mely_note.specs.declared.note.Note.{Note}
use Rattle.mely_note.specs.Notes.{entry_of, entries_of, noted_by}
use Rattle.mely_fleet.specs.Calls.{SeesAt, front_in}
use Rattle.mely_fleet.proofs.FrontLemmas.{others_of_entries, entries_more}

-- a number of each entry, of those of the pass alone
abbrev pub own : ℕ → (List Entry → Entry → ℕ) → List Entry → Entry → ℕ
own n of before entry = if pass_of entry == n then of before entry else 0

pub either_way : (b : Bool) (n : ℕ) → (if b then n else n) ≡ n
either_way true n = refl
either_way false n = refl

module _ (of : List Entry → Entry → ℕ) where
  -- others' entries count nothing
  pub others_none : (n : ℕ) (before between : List Entry) → entries_by n between ≡ [] → sum_along (own n of) before between ≡ 0
  others_none n before [] none = refl
  others_none n before (entry ∷ between) none =
      let first = others_first n entry between none in
      let here : own n of before entry ≡ 0 = ap (λ (b : Bool). if b then of before entry else 0) first.0 in
      let rest = others_none n (before ++ entry ∷ []) between first.1 in
      omega (arith, here, rest)

  pub others_same : (n : ℕ) (front history : List Entry) → OthersSince pass_of n front history → sum_along (own n of) [] history ≡ sum_along (own n of) [] front
  others_same n front history (between, is, none) =
      let all = ap (λ h. sum_along (own n of) [] h) is in
      let both = along-append (own n of) [] front between in
      let nothing = others_none n front between none in
      omega (arith, all, both, nothing)

  -- one entry of the pass
  own_more : (n : ℕ) (front point after : List Entry) (entry : Entry) → OthersSince pass_of n front point → after ≡ point ++ entry ∷ [] → sum_along (own n of) [] after ≡ sum_along (own n of) [] front + own n of point entry
  own_more n front point after entry since is =
      let all = ap (λ h. sum_along (own n of) [] h) is in
      let push = along-push (own n of) [] point entry in
      let same = others_same n front point since in
      omega (arith, all, push, same)

  module _ {S P : Type 0} where
    -- what the pass made in a shard, of what was seen shard by shard
    abbrev pub own_in : ℕ → List (List (Note S P)) → ℕ → ℕ
    own_in n fronts k = sum_along (own n of) [] (entries_of (front_in fronts k))

    -- others' notes count nothing
    pub noted_same : (n : ℕ) (front history : List (Note S P)) → OthersSince noted_by n front history → sum_along (own n of) [] (entries_of history) ≡ sum_along (own n of) [] (entries_of front)
    noted_same n front history since = others_same n (entries_of front) (entries_of history) (others_of_entries n front history since)

    -- a call on a shard that leaves its history
    pub sees_same : {Does : List (Note S P) → List (Note S P) → Type 0} (setup : _) (n shard : ℕ) (fronts after : List (List (Note S P))) (called : SeesAt setup n shard fronts after Does) → front_in after shard ≡ called.seen.point → (k : ℕ) → own_in n after k ≡ own_in n fronts k
    sees_same setup n shard fronts after called is k = elim (cases_eq k shard) [
      | inl same ↦ ap (own_in n after) same ∙ ap (λ h. sum_along (own n of) [] (entries_of h)) is ∙ noted_same n (front_in fronts shard) called.seen.point called.seen.others ∙ sym (ap (own_in n fronts) same)
      | inr apart ↦ ap (λ h. sum_along (own n of) [] (entries_of h)) (called.others k apart)
    ]

    -- a call on a shard that makes a note there
    pub sees_more : {Does : List (Note S P) → List (Note S P) → Type 0} (setup : _) (n shard : ℕ) (fronts after : List (List (Note S P))) (called : SeesAt setup n shard fronts after Does) (note : Note S P) → noted_by note ≡ n → front_in after shard ≡ called.seen.point ++ note ∷ [] → (k more : ℕ) → of (entries_of called.seen.point) (entry_of note) ≡ more → (k ≢ shard → more ≡ 0) → own_in n after k ≡ own_in n fronts k + more
    sees_more setup n shard fronts after called note by is k more counts elsewhere = elim (cases_eq k shard) [
      | inl same ↦
          let now = ap (own_in n after) same in
          let was = ap (own_in n fronts) same in
          let point = called.seen.point in
          let grows = own_more n (entries_of (front_in fronts shard)) (entries_of point) (entries_of (front_in after shard)) (entry_of note) (others_of_entries n (front_in fronts shard) point called.seen.others) (entries_more point (front_in after shard) note is) in
          let mine : own n of (entries_of point) (entry_of note) ≡ more = ap (λ (b : Bool). if b then of (entries_of point) (entry_of note) else 0) (eq-eqb (noted_by note) n by) ∙ counts in
          omega (arith, now, was, grows, mine)
      | inr apart ↦
          let same = ap (λ h. sum_along (own n of) [] (entries_of h)) (called.others k apart) in
          let none = elsewhere apart in
          omega (arith, same, none)
    ]

  -- ---- all passes

  -- so many numbers from this one on, summed up
  abbrev pub sum_from : ℕ → ℕ → (ℕ → ℕ) → ℕ
  sum_from from zero f = 0
  sum_from from (suc many) f = f from + sum_from (suc from) many f

  from_none : (from many : ℕ) → sum_from from many (λ _. 0) ≡ 0
  from_none from zero = refl
  from_none from (suc many) = let rest = from_none (suc from) many in omega (arith, rest)

  from_both : (from many : ℕ) (f h : ℕ → ℕ) → sum_from from many (λ n. f n + h n) ≡ sum_from from many f + sum_from from many h
  from_both from zero f h = refl
  from_both from (suc many) f h = let rest = from_both (suc from) many f h in omega (arith, rest)

  -- a number that is 0 but at one place
  from_past : (from many k x : ℕ) → k < from → sum_from from many (λ n. if k == n then x else 0) ≡ 0
  from_past from zero k x low = refl
  from_past from (suc many) k x low =
      let here : (if k == from then x else 0) ≡ 0 = ap (λ (b : Bool). if b then x else 0) (ne_eqb k from (λ e. omega (arith, e, low))) in
      let rest = from_past (suc from) many k x (omega (arith, low)) in
      omega (arith, here, rest)

  from_one : (from many k x : ℕ) → from ≤ k → k < from + many → sum_from from many (λ n. if k == n then x else 0) ≡ x
  from_one from zero k x low high = absurd (omega (arith, low, high))
  from_one from (suc many) k x low high = elim (cases_eq k from) [
    | inl same ↦
        let here : (if k == from then x else 0) ≡ x = ap (λ (b : Bool). if b then x else 0) (eq-eqb k from same) in
        let rest = from_past (suc from) many k x (omega (arith, same)) in
        omega (arith, here, rest)
    | inr apart ↦
        let here : (if k == from then x else 0) ≡ 0 = ap (λ (b : Bool). if b then x else 0) (ne_eqb k from apart) in
        let rest = from_one (suc from) many k x (omega (arith, low, apart)) (omega (arith, high)) in
        omega (arith, here, rest)
  ]

  -- where each entry is of one of so many passes, these count all
  pub all_own : (count : ℕ) (before history : List Entry) → ((m : ℕ) → count ≤ m → entries_by m history ≡ []) → sum_from 0 count (λ n. sum_along (own n of) before history) ≡ sum_along of before history
  all_own count before [] strangers = from_none 0 count
  all_own count before (entry ∷ history) strangers =
      let apart = from_both 0 count (λ n. own n of before entry) (λ n. sum_along (own n of) (before ++ entry ∷ []) history) in
      let low : pass_of entry < count = known (pass_of entry) refl in
      let one = from_one 0 count (pass_of entry) (of before entry) (omega arith) (omega (arith, low)) in
      let rest = all_own count (before ++ entry ∷ []) history (λ m high. (others_first m entry history (strangers m high)).1) in
      omega (arith, apart, one, rest)
    where
      known : (m : ℕ) → pass_of entry ≡ m → m < count
      known m is = elim (cases_lt m count) [
        | inl low ↦ low
        | inr high ↦ let other = (others_first m entry history (strangers m high)).0 in let same = eq-eqb (pass_of entry) m is in let wrong : true ≡ false = sym same ∙ other in cc
      ]
