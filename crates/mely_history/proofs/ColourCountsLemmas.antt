-- The numbers that a judge keeps of a colour, after one more entry, and what they allow.
use Rattle.std.proofs.Common.{◌≡◌, ℕ, ◌+◌, ◌-◌, ◌*◌, ◌<◌, ◌≤◌, List, [], ◌∷◌, ◌++◌, Some, length, take, drop, min, refl, sym, ◌∙◌, ap, subst, arith, length-append, length-drop}
use Rattle.std.specs.List.{sum_by}
use Rattle.std.proofs.lemmas.List.{take-append-le, drop-drop}
use Rattle.std.proofs.lemmas.List.Sums.{sum_by-take-drop}
use Rattle.mely_event.specs.declared.colour.Colour.{Colour}
use Rattle.mely_event.specs.declared.event.Event.{Event}
use Rattle.mely_history.specs.Setup.{shape_of}
use Rattle.mely_history.specs.declared.setup.Setup.{Setup}
use Rattle.mely_history.specs.declared.entry.Entry.{Entry}
use Rattle.mely_history.specs.declared.entry.Entry.TheVariants.{Reg, Take, Fin, Steal}
use Rattle.mely_history.specs.declared.colour_counts.ColourCounts.{ColourCounts}
use Rattle.mely_history.specs.Entries.{colour_of}
use Rattle.mely_history.specs.History.{registered_of, begun_of, queued_of, weight}
use Rattle.mely_history.specs.Legal.{IsAllowed}
use Rattle.mely_history.specs.ColourAccount.{ColourAccount, account_of, next_account}
use Rattle.mely_history.specs.ColourCounts.{Tells, Allows, PassesOver}
use Rattle.mely_history.proofs.ColourAccountLemmas.{account-own, account-other}
use Rattle.mely_history.proofs.RegistrationLemmas.{sum_by-drop-append}

-- the numbers of an account
record Numbers (setup : Setup) (account : ColourAccount) (counts : ColourCounts) : Type 0 where
  pub owner : counts.owner ≡ account.owner
  pub last : counts.last ≡ account.last
  pub registered : counts.registered ≡ length account.registered
  pub begun : counts.begun ≡ account.begun
  pub ended : counts.ended ≡ account.ended
  pub worth : counts.worth ≡ sum_by (weight setup) (drop account.begun account.registered)
  pub begun_within : counts.begun ≤ counts.registered
  pub ended_within : counts.ended ≤ counts.begun
  pub worth_within : counts.worth ≤ 4294967295 * counts.registered

numbers_of : (setup : Setup) (entries : List Entry) (c : Colour) (counts : ColourCounts) → Tells setup entries c counts → Numbers setup (account_of setup entries c) counts
numbers_of setup entries c counts tells = record { owner = tells.owner; last = tells.last; registered = tells.registered; begun = tells.begun; ended = tells.ended; worth = tells.worth; begun_within = tells.begun_within; ended_within = tells.ended_within; worth_within = tells.worth_within }

-- the numbers of an account and a front tell of the colour
tells_from : (setup : Setup) (entries : List Entry) (c : Colour) (account : ColourAccount) (counts : ColourCounts) → account_of setup entries c ≡ account → Numbers setup account counts → length (registered_of (take counts.front entries) c) ≡ counts.begun → counts.front ≤ length entries → counts.registered ≤ length entries → Tells setup entries c counts
tells_from setup entries c account counts is numbers front front_within registered_within =
    let own = subst (λ s. Numbers setup s counts) (sym is) numbers in
    record { owner = own.owner; last = own.last; registered = own.registered; begun = own.begun; ended = own.ended; worth = own.worth; front = front; front_within = front_within; begun_within = own.begun_within; ended_within = own.ended_within; registered_within = registered_within; worth_within = own.worth_within }

-- a beginning is the same where one more entry stands behind
front-append : (before : List Entry) (entry : Entry) (c : Colour) (n : ℕ) → n ≤ length before → registered_of (take n (before ++ entry ∷ [])) c ≡ registered_of (take n before) c
front-append before entry c n le = ap (λ es. registered_of es c) (take-append-le n before (entry ∷ []) le)

-- one entry of another colour changes no number
pub tells_other : (setup : Setup) (before : List Entry) (entry : Entry) (c : Colour) (counts : ColourCounts) → ((colour_of entry).0 ≡ c.0 → ⊥) → Tells setup before c counts → Tells setup (before ++ entry ∷ []) c counts
tells_other setup before entry c counts other tells =
    let front_within = tells.front_within in let registered_within = tells.registered_within in
    let longer : length (before ++ entry ∷ []) ≡ length before + 1 = length-append before (entry ∷ []) in
    tells_from setup (before ++ entry ∷ []) c (account_of setup before c) counts (account-other setup before entry c other) (numbers_of setup before c counts tells)
    (ap length (front-append before entry c counts.front front_within) ∙ tells.front) (omega (arith, front_within, longer)) (omega (arith, registered_within, longer))

module _ (setup : Setup) (before : List Entry) (c : Colour) (counts : ColourCounts) (tells : Tells setup before c counts) where
  longer : (entry : Entry) → length (before ++ entry ∷ []) ≡ length before + 1
  longer entry = length-append before (entry ∷ [])

  same_front : (entry : Entry) → length (registered_of (take counts.front (before ++ entry ∷ [])) c) ≡ counts.begun
  same_front entry = ap length (front-append before entry c counts.front tells.front_within) ∙ tells.front

  -- after a registration
  tells_reg : (event : Event) (by w : ℕ) → w ≡ weight setup event → w ≤ 4294967295 → Tells setup (before ++ Reg c event by ∷ []) c (record counts { registered = counts.registered + 1; worth = counts.worth + w })
  tells_reg event by w is small =
      let entry = Reg c event by in
      let more = longer entry in
      let fw = tells.front_within in let rw' = tells.registered_within in let bw = tells.begun_within in let ww = tells.worth_within in let reg = tells.registered in let beg = tells.begun in
      let behind = sum_by-drop-append (weight setup) (registered_of before c) (begun_of before c) event (omega (arith, bw, reg, beg)) in
      let sum = tells.worth in
      tells_from setup (before ++ entry ∷ []) c (next_account (account_of setup before c) entry) (record counts { registered = counts.registered + 1; worth = counts.worth + w }) (account-own setup before entry c refl)
      (record {
        owner = tells.owner;
        last = tells.last;
        registered = ap (λ n. n + 1) reg ∙ sym (length-append (registered_of before c) (event ∷ []));
        begun = tells.begun;
        ended = tells.ended;
        worth = omega (arith, behind, sum, is);
        begun_within = omega (arith, bw);
        ended_within = tells.ended_within;
        worth_within = omega (arith, ww, small);
      })
      (same_front entry) (omega (arith, fw, more)) (omega (arith, rw', more))

  -- after a take that walked over what it took
  tells_take : (core count front sum : ℕ) → Allows setup counts (Take c core count) → PassesOver setup before c counts.front count front sum → (sum ≤ counts.worth) × Tells setup (before ++ Take c core count ∷ []) c (record counts { front = front; begun = counts.begun + count; worth = counts.worth - sum; last = Some (core, count) })
  tells_take core count front sum may passes =
      let entry = Take c core count in
      let more = longer entry in
      let rw' = tells.registered_within in let bw = tells.begun_within in let ww = tells.worth_within in let ew = tells.ended_within in
      let many = may.3 in let rest = may.1 in let fw = passes.within in
      let first : length (registered_of (take counts.front before) c) ≡ begun_of before c = tells.front ∙ tells.begun in
      let queue = queued_of before c in
      let split = sum_by-take-drop (weight setup) queue count in
      let taken : sum ≡ sum_by (weight setup) (take count queue) = passes.weighed ∙ ap (λ n. sum_by (weight setup) (take count (drop n (registered_of before c)))) first in
      let left : drop count queue ≡ drop (begun_of before c + count) (registered_of before c) = drop-drop count (begun_of before c) (registered_of before c) in
      let rest_sum : sum_by (weight setup) (drop count queue) ≡ sum_by (weight setup) (drop (begun_of before c + count) (registered_of before c)) = ap (sum_by (weight setup)) left in
      let worth = tells.worth in
      let beg = tells.begun in
      let passed = passes.passed in
      let front_of = tells.front in
      let here = front-append before entry c front passes.within in (
        omega (arith, split, taken, worth),
        tells_from setup (before ++ entry ∷ []) c (next_account (account_of setup before c) entry) (record counts { front = front; begun = counts.begun + count; worth = counts.worth - sum; last = Some (core, count) }) (account-own setup before entry c refl)
            (record {
              owner = tells.owner;
              last = refl;
              registered = tells.registered;
              begun = ap (λ n. n + count) beg;
              ended = tells.ended;
              worth = omega (arith, split, taken, worth, rest_sum);
              begun_within = omega (arith, bw, many);
              ended_within = omega (arith, ew);
              worth_within = omega (arith, ww);
            })
            (ap length here ∙ omega (arith, passed, front_of)) (omega (arith, fw, more)) (omega (arith, rw', more)),
      )

  -- after a finish
  tells_fin : (core count : ℕ) → Allows setup counts (Fin c core count) → Tells setup (before ++ Fin c core count ∷ []) c (record counts { ended = counts.ended + count })
  tells_fin core count may =
      let entry = Fin c core count in
      let more = longer entry in
      let fw = tells.front_within in let rw' = tells.registered_within in let whole = may.1 in let ended = tells.ended in
      tells_from setup (before ++ entry ∷ []) c (next_account (account_of setup before c) entry) (record counts { ended = counts.ended + count }) (account-own setup before entry c refl)
      (record {
        owner = tells.owner;
        last = tells.last;
        registered = tells.registered;
        begun = tells.begun;
        ended = ap (λ n. n + count) ended;
        worth = tells.worth;
        begun_within = tells.begun_within;
        ended_within = omega (arith, whole);
        worth_within = tells.worth_within;
      })
      (same_front entry) (omega (arith, fw, more)) (omega (arith, rw', more))

  -- after a steal
  tells_steal : (from to : ℕ) → Tells setup (before ++ Steal c from to ∷ []) c (record counts { owner = to })
  tells_steal from to =
      let entry = Steal c from to in
      let more = longer entry in
      let fw = tells.front_within in let rw' = tells.registered_within in
      tells_from setup (before ++ entry ∷ []) c (next_account (account_of setup before c) entry) (record counts { owner = to }) (account-own setup before entry c refl)
      (record {
        owner = refl;
        last = tells.last;
        registered = tells.registered;
        begun = tells.begun;
        ended = tells.ended;
        worth = tells.worth;
        begun_within = tells.begun_within;
        ended_within = tells.ended_within;
        worth_within = tells.worth_within;
      })
      (same_front entry) (omega (arith, fw, more)) (omega (arith, rw', more))

  waiting_is : length (queued_of before c) ≡ counts.registered - counts.begun
  waiting_is = let reg = tells.registered in let beg = tells.begun in length-drop (begun_of before c) (registered_of before c) ∙ omega (arith, reg, beg)

  allows_reg : (event : Event) (by : ℕ) → (Allows setup counts (Reg c event by) → IsAllowed setup before (Reg c event by)) × (IsAllowed setup before (Reg c event by) → Allows setup counts (Reg c event by))
  allows_reg event by = ((λ may. may), (λ may. may))

  allows_take : (core count : ℕ) → (Allows setup counts (Take c core count) → IsAllowed setup before (Take c core count)) × (IsAllowed setup before (Take c core count) → Allows setup counts (Take c core count))
  allows_take core count =
      let waits = waiting_is in let beg = tells.begun in let end = tells.ended in (
        (λ may. let some = may.2 in record { by_owner = may.0 ∙ tells.owner; ready = record { at_rest = sym beg ∙ may.1 ∙ end; waiting = omega (arith, some, waits) }; whole_batch = may.3 ∙ ap (min (shape_of setup).batch) (sym waits) }),
        (λ may. let some = may.ready.waiting in (may.by_owner ∙ sym tells.owner, beg ∙ may.ready.at_rest ∙ sym end, omega (arith, some, waits), may.whole_batch ∙ ap (min (shape_of setup).batch) waits)),
      )

  allows_fin : (core count : ℕ) → (Allows setup counts (Fin c core count) → IsAllowed setup before (Fin c core count)) × (IsAllowed setup before (Fin c core count) → Allows setup counts (Fin c core count))
  allows_fin core count =
      let beg = tells.begun in let end = tells.ended in (
        (λ may. record { last = sym tells.last ∙ may.0; whole = sym beg ∙ may.1 ∙ ap (λ n. n + count) end }),
        (λ may. (tells.last ∙ may.last, beg ∙ may.whole ∙ ap (λ n. n + count) (sym end))),
      )

  allows_steal : (from to : ℕ) → (Allows setup counts (Steal c from to) → IsAllowed setup before (Steal c from to)) × (IsAllowed setup before (Steal c from to) → Allows setup counts (Steal c from to))
  allows_steal from to =
      let waits = waiting_is in let beg = tells.begun in let end = tells.ended in let worth = tells.worth in (
        (λ may. let some = may.4 in let over = may.5 in record { not_pinned = may.6; from_owner = may.0 ∙ tells.owner; other = may.1; core = may.2; ready = record { at_rest = sym beg ∙ may.3 ∙ end; waiting = omega (arith, some, waits) }; worthy = subst (λ n. (shape_of setup).steal_cost < n) worth over }),
        (λ may. let some = may.ready.waiting in let over = may.worthy in (may.from_owner ∙ sym tells.owner, may.other, may.core, beg ∙ may.ready.at_rest ∙ sym end, omega (arith, some, waits), subst (λ n. (shape_of setup).steal_cost < n) (sym worth) over, may.not_pinned)),
      )

-- the numbers of its colour allow an entry exactly where it is allowed
pub allows_exactly : (setup : Setup) (before : List Entry) (entry : Entry) (counts : ColourCounts) → Tells setup before (colour_of entry) counts → (Allows setup counts entry → IsAllowed setup before entry) × (IsAllowed setup before entry → Allows setup counts entry)
allows_exactly setup before (Reg c event by) counts tells = allows_reg setup before c counts tells event by
allows_exactly setup before (Take c core count) counts tells = allows_take setup before c counts tells core count
allows_exactly setup before (Fin c core count) counts tells = allows_fin setup before c counts tells core count
allows_exactly setup before (Steal c from to) counts tells = allows_steal setup before c counts tells from to

module _ (setup : Setup) (before : List Entry) (entry : Entry) (counts : ColourCounts) (tells : Tells setup before (colour_of entry) counts) where
  pub add_reg : (c : Colour) (event : Event) (by w : ℕ) → entry ≡ Reg c event by → w ≡ weight setup event → w ≤ 4294967295 → Tells setup (before ++ entry ∷ []) (colour_of entry) (record counts { registered = counts.registered + 1; worth = counts.worth + w })
  add_reg c event by w is weighs small = subst (λ e. Tells setup before (colour_of e) counts → Tells setup (before ++ e ∷ []) (colour_of e) (record counts { registered = counts.registered + 1; worth = counts.worth + w })) (sym is) (λ told. tells_reg setup before c counts told event by w weighs small) tells

  pub add_take : (c : Colour) (core count front sum : ℕ) → entry ≡ Take c core count → Allows setup counts entry → PassesOver setup before c counts.front count front sum → (sum ≤ counts.worth) × Tells setup (before ++ entry ∷ []) (colour_of entry) (record counts { front = front; begun = counts.begun + count; worth = counts.worth - sum; last = Some (core, count) })
  add_take c core count front sum is may passes = subst (λ e. Tells setup before (colour_of e) counts → Allows setup counts e → (sum ≤ counts.worth) × Tells setup (before ++ e ∷ []) (colour_of e) (record counts { front = front; begun = counts.begun + count; worth = counts.worth - sum; last = Some (core, count) })) (sym is) (λ told allows. tells_take setup before c counts told core count front sum allows passes) tells may

  pub add_fin : (c : Colour) (core count : ℕ) → entry ≡ Fin c core count → Allows setup counts entry → Tells setup (before ++ entry ∷ []) (colour_of entry) (record counts { ended = counts.ended + count })
  add_fin c core count is may = subst (λ e. Tells setup before (colour_of e) counts → Allows setup counts e → Tells setup (before ++ e ∷ []) (colour_of e) (record counts { ended = counts.ended + count })) (sym is) (λ told allows. tells_fin setup before c counts told core count allows) tells may

  pub add_steal : (c : Colour) (from to : ℕ) → entry ≡ Steal c from to → Tells setup (before ++ entry ∷ []) (colour_of entry) (record counts { owner = to })
  add_steal c from to is = subst (λ e. Tells setup before (colour_of e) counts → Tells setup (before ++ e ∷ []) (colour_of e) (record counts { owner = to })) (sym is) (λ told. tells_steal setup before c counts told from to) tells
